use Rattle.room_core.proofs.Steps.{origin_kept}
use Rattle.room_core.proofs.laws.steps_keep_origins.Goals as goal

pub returns : goal.returns
returns g c = λ before after event reply step. origin_kept (g.V.Advance.judges before.origin) before after event reply step
