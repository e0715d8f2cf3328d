use Rattle.std.proofs.Common.{[], ◌∷◌, ◌++◌, sym, ap, ◌∙◌, subst₂, eqb-true, eq-eqb, List, true≢false}
use Rattle.cim_model.specs.Trace.{Row}
use Rattle.feeder_trace.specs.Rows.{AddsRow}
use Rattle.feeder_trace.proofs.RowLemmas.{add_same, add_next}
use Rattle.feeder_trace.proofs.merge.add.Goals as goal

pub returns-then-eq-clause-added : goal.returns-then-eq-clause-added
returns-then-eq-clause-added c =
    subst₂ (λ (old new : List Row). AddsRow c.args.part old new) (sym c.in-Some.ensures.items) (sym c.put_within-then-eq.ensures.items)
    (add_same c.pop.new.self.items c.in-Some.last c.args.part c.join.result (eqb-true _ _ (sym c.if-eq.ensures)) c.join.ensures)

pub returns-clause-added : goal.returns-clause-added
returns-clause-added c =
    subst₂ (λ (old new : List Row). AddsRow c.args.part old new) (sym c.in-Some.ensures.items) (sym (c.put_within-3.ensures.items ∙ ap (λ (rows : List Row). rows ++ c.args.part ∷ []) c.put_within-2.ensures.items))
    (add_next c.pop.new.self.items c.in-Some.last c.args.part (λ e. true≢false (sym (eq-eqb _ _ e) ∙ sym c.if-eq.ensures)))
