use Rattle.std.proofs.Common.{◌≡◌, drop}
use Rattle.segment_cuts.specs.Sections.{length_of}
use Rattle.segment_cuts.proofs.segment.length_of.Given as goal

abbrev pub invariant-loop-mark : goal.invariant-loop-mark
invariant-loop-mark l = length_of l.marks l.id ≡ length_of (drop l.mark-index l.marks) l.id
