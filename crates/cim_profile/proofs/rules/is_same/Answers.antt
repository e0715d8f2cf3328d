use Rattle.std.proofs.Common.{◌∙◌}
use Rattle.cim_profile.proofs.rules.is_same.Goals as goal

pub returns : goal.returns
returns c = c.eq.ensures ∙ c.ties_are_equal.ensures c.args.one.now c.args.other.now
