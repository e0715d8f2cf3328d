use Rattle.std.proofs.Common.{refl}
use Rattle.wire.specs.Values.{phased}
use Rattle.wire.proofs.fields.phases_at.Goals as goal

pub returns-in-Some-clause-form : goal.returns-in-Some-clause-form
returns-in-Some-clause-form c = (phased c.in-Some.set, refl, c.in-Some.ensures.found)
