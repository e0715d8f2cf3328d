use Rattle.std.proofs.Common.{refl}
use Rattle.wire.specs.Values.{anchored}
use Rattle.wire.proofs.fields.anchor_at.Goals as goal

pub returns-in-Some-clause-form : goal.returns-in-Some-clause-form
returns-in-Some-clause-form c = (anchored c.in-Some.at, refl, c.in-Some.ensures.found)
