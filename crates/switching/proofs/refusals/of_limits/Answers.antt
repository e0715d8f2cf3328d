use Rattle.std.proofs.Common.{rules}
use Rattle.switching.specs.Parts.{of_limits}
use Rattle.switching.proofs.Chains.{next}
use Rattle.switching.proofs.refusals.of_limits.Goals as goal

pub returns : goal.returns
unfolding of_limits
returns c = next _ _ _ _ (next _ _ _ _ c.crowded.ensures c.or_else.ensures (λ e. search rules)) c.or_else-2.ensures (λ e. search rules)
