use Rattle.segment_cuts.proofs.OneList.{determined}
use Rattle.segment_cuts.proofs.laws.sections_are_determined.Goals as goal

pub returns : goal.returns
returns c = determined
