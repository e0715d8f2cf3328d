use Rattle.std.proofs.Common.{◌∙◌}
use Rattle.cim_profile.specs.Facts as spec
use Rattle.cim_profile.proofs.subject.Subject.is_of.Goals as goal

pub returns : goal.returns
returns c m is = c.names_any.ensures ∙ is.types.any (spec.kind_test c.args.kind)
