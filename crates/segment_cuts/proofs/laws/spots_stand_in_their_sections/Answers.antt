use Rattle.segment_cuts.proofs.Counting.{stands_there}
use Rattle.segment_cuts.proofs.laws.spots_stand_in_their_sections.Goals as goal

pub returns : goal.returns
returns c = stands_there
