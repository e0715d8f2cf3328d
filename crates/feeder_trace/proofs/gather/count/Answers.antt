use Rattle.std.proofs.Common.{sym}
use Rattle.feeder_trace.proofs.PartLemmas.{parts_push}
use Rattle.feeder_trace.proofs.PhaseLemmas.{some_phase}
use Rattle.feeder_trace.proofs.gather.count.Goals as goal

pub returns-then-not-is_empty : goal.returns-then-not-is_empty
returns-then-not-is_empty c =
    let some = some_phase c.args.phases (sym c.if-not-is_empty.ensures.value) in
    parts_push c.args.id c.args.phases c.args.parts.now c.put_within.new.items some.0 some.1 c.put_within.ensures.items c.put_within.ensures.len c.put_within.ensures.capacity
