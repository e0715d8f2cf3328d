use Rattle.std.proofs.Common.{refl}
use Rattle.wire.specs.Values.{long}
use Rattle.wire.proofs.fields.length_at.Goals as goal

pub returns-in-Some-clause-form : goal.returns-in-Some-clause-form
returns-in-Some-clause-form c = (long (record { mm = c.in-Some.mm }), refl, c.in-Some.ensures.found)
