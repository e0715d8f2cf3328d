use Rattle.std.proofs.Common.{rules, ◌∙◌}
use Rattle.switching.proofs.Chains.{all_in_order, next}
use Rattle.switching.proofs.refusals.first_refusal.Goals as goal

pub returns : goal.returns
returns c =
    next _ _ _ _ (next _ _ _ _ c.of_target.ensures c.or_else.ensures (λ e. search rules)) c.or_else-2.ensures (λ e. search rules)
    ∙ all_in_order c.args.index.now c.args.overlay.now c.args.act.now
