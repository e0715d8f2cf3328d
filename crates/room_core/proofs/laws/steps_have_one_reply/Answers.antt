use Rattle.room_core.proofs.OneStep.{one_step}
use Rattle.room_core.proofs.laws.steps_have_one_reply.Goals as goal

pub returns : goal.returns
returns g c = λ before after other event reply answer x y. one_step (g.V.Advance.judges before.origin) (c.one_judgement.ensures before.origin) before after other event reply answer x y
