use Rattle.wire.proofs.StageWord.{stage_alone, stage_read}
use Rattle.wire.proofs.laws.a_stage_is_one_word.Goals as goal

pub returns : goal.returns
returns c = record { word = stage_alone; stage = stage_read }
