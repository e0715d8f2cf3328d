use Rattle.std.proofs.Common.{take}
use Rattle.feeder_trace.specs.Search.{MarksAll}
use Rattle.feeder_trace.specs.Spread.{AmongMembers}
use Rattle.feeder_trace.proofs.spread.reach_members.Given as goal

abbrev pub invariant-loop-term : goal.invariant-loop-term
invariant-loop-term l = MarksAll (AmongMembers (take l.term-index l.members) l.phases) l.initial.search l.search
