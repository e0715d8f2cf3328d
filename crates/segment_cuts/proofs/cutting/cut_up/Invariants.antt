use Rattle.segment_cuts.specs.Line.{spots}
use Rattle.segment_cuts.proofs.CutLemmas.{IsCutSoFar}
use Rattle.segment_cuts.proofs.cutting.cut_up.Given as goal

abbrev pub invariant-loop-placed : goal.invariant-loop-placed
invariant-loop-placed l = IsCutSoFar (spots l.line) l.placed-index l.sections.items l.section.items
