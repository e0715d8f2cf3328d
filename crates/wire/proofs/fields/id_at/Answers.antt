use Rattle.std.proofs.Common.{refl}
use Rattle.wire.specs.Values.{named}
use Rattle.wire.proofs.fields.id_at.Goals as goal

pub returns-in-Some-clause-form : goal.returns-in-Some-clause-form
returns-in-Some-clause-form c = (named c.in-Some.id, refl, c.in-Some.ensures)
