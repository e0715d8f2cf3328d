use Rattle.std.proofs.Common.{take}
use Rattle.feeder_trace.specs.Search.{MarksAll}
use Rattle.feeder_trace.specs.Spread.{AmongSpokes}
use Rattle.feeder_trace.proofs.spread.reach_spokes.Given as goal

abbrev pub invariant-loop-spoke : goal.invariant-loop-spoke
invariant-loop-spoke l = MarksAll (AmongSpokes (take l.spoke-index l.spokes) l.except l.phases) l.initial.search l.search
