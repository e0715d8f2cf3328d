use Rattle.std.proofs.Common.{take}
use Rattle.feeder_trace.specs.Spread.{IsOver, InSections}
use Rattle.feeder_trace.specs.Search.{MarksAll}
use Rattle.feeder_trace.proofs.spread.along_line.Given as goal

abbrev pub invariant-loop-index : goal.invariant-loop-index
invariant-loop-index l = MarksAll (InSections (take l.index l.section-items) l.term l.phases) l.initial.search l.search × IsOver l.graph l.hubs l.search
