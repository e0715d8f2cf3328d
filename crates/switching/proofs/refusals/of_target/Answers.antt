use Rattle.std.proofs.Common.{rules}
use Rattle.switching.specs.Parts.{of_target}
use Rattle.switching.proofs.Chains.{next}
use Rattle.switching.proofs.refusals.of_target.Goals as goal

pub returns : goal.returns
unfolding of_target
returns c =
    next _ _ _ _ (next _ _ _ _ (next _ _ _ _ (next _ _ _ _ (next _ _ _ _ c.unknown.ensures
    c.or_else.ensures (λ e. search rules))
    c.or_else-2.ensures (λ e. search rules))
    c.or_else-3.ensures (λ e. search rules))
    c.or_else-4.ensures (λ e. search rules))
    c.or_else-5.ensures (λ e. search rules)
