use Rattle.segment_cuts.proofs.CutLemmas.{cut_placed}
use Rattle.segment_cuts.proofs.cutting.cut_up.Goals as goal

pub loop-placed-preserved : goal.loop-placed-preserved
loop-placed-preserved c = cut_placed c.args.line.now c.loop-placed.placed-index _ _ _ _ _ c.loop-placed-test.true c.in_ok-put.ensures.sections c.in_ok-put.ensures.section c.loop-placed.invariant
