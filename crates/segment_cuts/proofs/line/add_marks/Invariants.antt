use Rattle.std.proofs.Common.{◌≡◌, ◌++◌, take}
use Rattle.std.specs.List.{flat_map}
use Rattle.segment_cuts.specs.Line.{placed_of}
use Rattle.segment_cuts.proofs.line.add_marks.Given as goal

abbrev pub invariant-loop-mark : goal.invariant-loop-mark
invariant-loop-mark l = l.line.items ≡ l.initial.line.items ++ flat_map placed_of (take l.mark-index l.marks)
