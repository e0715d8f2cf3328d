use Rattle.std.proofs.Common.{◌≡◌, ◌++◌, [], ℕ, List, None, true, refl, sym, subst, ◌∙◌}
use Rattle.history_writer.specs.declared.fault.OutFault.TheVariants as fault
use Rattle.nt_text.specs.Document.{lines_of}
use Rattle.script.specs.Answers.{AreAnswered}
use Rattle.script.specs.Rehearsal.{RehearsalState}
use Rattle.script.specs.Turns.{turns_of}
use Rattle.history_writer.proofs.KeptBack.{holds_all, holds_less, holds_more, stopped}
use Rattle.script.proofs.Standing.{Stands, stands_end, stands_first, stands_on}
use Rattle.script.proofs.Stopping.{stops_for_memory, stops_for_output}
use Rattle.script.proofs.rehearsal.Rehearsal.answer_all.Goals as goal

-- nothing was answered yet
begins : (start : RehearsalState) (lines left : List (List ℕ)) → left ≡ lines → Stands start lines left None start []
begins start lines left is = subst (λ (l : List (List ℕ)). Stands start lines l None start []) (sym is) (stands_first start lines)

pub loop-line-init : goal.loop-line-init
loop-line-init g c =
    ([], begins c.args.self.now (lines_of c.args.script.now) c.into_iter-line-iterator.result (c.into_iter-line-iterator.ensures.into_iter_gives ∙ c.of-line-items.ensures.lines), holds_all _ [] _ c.new-kept.ensures.items)

pub loop-line-preserved : goal.loop-line-preserved
loop-line-preserved g c =
    let at = c.loop-line.invariant in
    let told = c.in_ok-document.ensures in
    let stands = stands_on (c.a_stage_is_one_word.ensures.stage true) c.args.self.now (lines_of c.args.script.now) c.next.new.self c.in-Some.line.now c.loop-line.document c.in_ok-document.document c.loop-line.self c.take.new.self at.0 told.0
    (subst (λ (left : List (List ℕ)). Stands c.args.self.now (lines_of c.args.script.now) left c.loop-line.document c.loop-line.self at.0) c.in-Some.ensures.steps at.1) told.2 in
    (at.0 ++ told.0, stands, holds_less (holds_more at.2 told.0 c.take.new.into.items (at.0 ++ told.0) told.1 refl) _ _ c.in_ok-flush_full.ensures.ok)

pub returns-in_err-document-clause-fault : goal.returns-in_err-document-clause-fault
returns-in_err-document-clause-fault g c =
    let at = c.loop-line.invariant in
    stopped _ c.from_residual.result fault.NoMemory c.from_residual.ensures.1 (stops_for_memory c.args.script.now at.1 at.2)

pub returns-in_err-flush_full-clause-fault : goal.returns-in_err-flush_full-clause-fault
returns-in_err-flush_full-clause-fault g c =
    let at = c.loop-line.invariant in
    let told = c.in_ok-document.ensures in
    let stands = stands_on (c.a_stage_is_one_word.ensures.stage true) c.args.self.now (lines_of c.args.script.now) c.next.new.self c.in-Some.line.now c.loop-line.document c.in_ok-document.document c.loop-line.self c.take.new.self at.0 told.0
    (subst (λ (left : List (List ℕ)). Stands c.args.self.now (lines_of c.args.script.now) left c.loop-line.document c.loop-line.self at.0) c.in-Some.ensures.steps at.1) told.2 in
    stopped _ c.from_residual-in_err-flush_full.result fault.WriteFault c.from_residual-in_err-flush_full.ensures.1
    (stops_for_output c.args.script.now stands (holds_more at.2 told.0 c.take.new.into.items (at.0 ++ told.0) told.1 refl) _ c.in_err-flush_full.ensures.failed)

pub returns-in_err-end-clause-fault : goal.returns-in_err-end-clause-fault
returns-in_err-end-clause-fault g c =
    let at = c.loop-line.invariant in
    stopped _ c.from_residual-in_err-end.result fault.NoMemory c.from_residual-in_err-end.ensures.1 (stops_for_memory c.args.script.now at.1 at.2)

pub returns-clause-ok : goal.returns-clause-ok
returns-clause-ok g c =
    let at = c.loop-line.invariant in
    let told = c.in_ok-end.ensures in
    let answered = stands_end (c.a_stage_is_one_word.ensures.stage true) c.args.self.now (lines_of c.args.script.now) c.loop-line.document c.loop-line.self c.end.new.self at.0 told.0
    (subst (λ (left : List (List ℕ)). Stands c.args.self.now (lines_of c.args.script.now) left c.loop-line.document c.loop-line.self at.0) c.in-None.ensures.steps.0 at.1) told.2 in
    let holds = holds_more at.2 told.0 c.end.new.into.items (at.0 ++ told.0) told.1 refl in
    (holds.0, subst (λ (text : List ℕ). AreAnswered c.args.self.now (turns_of c.args.script.now) text c.end.new.self) (sym holds.1) answered, holds.2)
