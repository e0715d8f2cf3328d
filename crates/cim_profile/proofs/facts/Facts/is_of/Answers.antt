use Rattle.std.proofs.Common.{◌∙◌}
use Rattle.cim_profile.specs.Facts as spec
use Rattle.cim_profile.proofs.facts.Facts.is_of.Goals as goal

pub returns : goal.returns
returns c = c.names_any.ensures ∙ c.types_of.ensures.any (spec.kind_test c.args.kind)
