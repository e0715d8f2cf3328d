use Rattle.std.proofs.Common.{◌≤◌, ◌+◌, ◌++◌, [], length, refl, append-nil, arith}
use Rattle.wire.specs.Entries.{entry_text, history_text}
use Rattle.history_writer.specs.declared.fault.OutFault.TheVariants as fault
use Rattle.history_writer.proofs.Histories.{told_first, told_front, told_last, told_of, told_step}
use Rattle.history_writer.proofs.KeptBack.{holds_all, holds_broken, holds_front, holds_less, holds_more, holds_none, holds_same, stopped}
use Rattle.history_writer.proofs.Sending.{sends_none}
use Rattle.history_writer.proofs.history.write_history.Goals as goal

pub returns-in_err-write_head-clause-fault : goal.returns-in_err-write_head-clause-fault
returns-in_err-write_head-clause-fault g c =
    stopped _ c.from_residual.result fault.NoMemory c.from_residual.ensures.1 ([], c.args.kept.items ++ history_text c.args.newest.now.log, refl, sends_none _)

pub loop-index-init : goal.loop-index-init
loop-index-init g c =
    holds_all _ _ _ (told_first c.args.kept.items c.args.newest.now.log _ c.number-entries.result c.number-entries.ensures c.in_ok-write_head.ensures)

pub returns-in_err-write_entry-clause-fault : goal.returns-in_err-write_entry-clause-fault
returns-in_err-write_entry-clause-fault g c =
    stopped _ c.from_residual-in_err-write_entry.result fault.NoMemory c.from_residual-in_err-write_entry.ensures.1
    (holds_front c.loop-index.invariant _ (told_front c.args.kept.items c.args.newest.now.log c.loop-index.index))

pub returns-in_err-flush_full-clause-fault : goal.returns-in_err-flush_full-clause-fault
returns-in_err-flush_full-clause-fault g c =
    let kept = c.args.kept.items in
    let log = c.args.newest.now.log in
    let at = c.loop-index.index in
    let step = told_step kept log at c.entry.result.now (omega (arith, c.loop-index-test.true, c.number-entries.ensures)) c.entry.ensures in
    let more = told_front kept log (at + 1) in
    let holds = holds_more c.loop-index.invariant (entry_text (at + 1) c.entry.result.now) c.write_entry.new.into.items (told_of kept log (at + 1)) c.in_ok-write_entry.ensures.ok step in
    stopped _ c.from_residual-in_err-flush_full.result fault.WriteFault c.from_residual-in_err-flush_full.ensures.1
    (told_of kept log (at + 1), more.0, more.1, holds_broken holds _ c.in_err-flush_full.ensures.failed)

pub loop-index-preserved : goal.loop-index-preserved
loop-index-preserved g c =
    let kept = c.args.kept.items in
    let log = c.args.newest.now.log in
    let at = c.loop-index.index in
    let step = told_step kept log at c.entry.result.now (omega (arith, c.loop-index-test.true, c.number-entries.ensures)) c.entry.ensures in
    let holds = holds_more c.loop-index.invariant (entry_text (at + 1) c.entry.result.now) c.write_entry.new.into.items (told_of kept log (at + 1)) c.in_ok-write_entry.ensures.ok step in
    holds_less holds _ _ c.in_ok-flush_full.ensures.ok

pub returns-in_err-flush-clause-fault : goal.returns-in_err-flush-clause-fault
returns-in_err-flush-clause-fault g c =
    let kept = c.args.kept.items in
    let log = c.args.newest.now.log in
    let all : length log ≤ c.loop-index.index = omega (arith, c.loop-index-test.false, c.number-entries.ensures) in
    let whole = kept ++ history_text log in
    stopped _ c.from_residual-in_err-flush.result fault.WriteFault c.from_residual-in_err-flush.ensures.1
    (whole, [], append-nil whole, holds_broken (holds_same c.loop-index.invariant whole (told_last kept log c.loop-index.index all)) _ c.in_err-flush.ensures.failed)

pub returns-clause-ok : goal.returns-clause-ok
returns-clause-ok g c =
    let kept = c.args.kept.items in
    let log = c.args.newest.now.log in
    let all : length log ≤ c.loop-index.index = omega (arith, c.loop-index-test.false, c.number-entries.ensures) in
    holds_none (holds_same c.loop-index.invariant (kept ++ history_text log) (told_last kept log c.loop-index.index all)) _ c.in_ok-flush.ensures.ok
