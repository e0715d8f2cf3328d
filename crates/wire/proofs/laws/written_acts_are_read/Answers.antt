use Rattle.wire.proofs.Back.{act_back}
use Rattle.wire.proofs.laws.written_acts_are_read.Goals as goal

pub returns : goal.returns
returns c = act_back c.ids_are_read_back.ensures.plain
