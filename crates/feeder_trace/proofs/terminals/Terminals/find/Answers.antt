use Rattle.std.proofs.Common.{◌≡◌, Some, slice_get, Contains, sym, ap, ◌∙◌, subst}
use Rattle.cim_words.specs.declared.phases.PhaseSet.{PhaseSet}
use Rattle.room_words.specs.declared.term.Term.{Term}
use Rattle.feeder_trace.specs.Views.{TerminalsView}
use Rattle.feeder_trace.proofs.NumberingLemmas.{found_at, found_every, found_none, values_at, none_from_is_some}
use Rattle.feeder_trace.proofs.terminals.Terminals.find.Goals as goal

pub returns-in_err-index-clause-every : goal.returns-in_err-index-clause-every
returns-in_err-index-clause-every c phases has =
    absurd (found_none _ c.terms_are_compared.ensures.derived c.self.inside.phases.entries c.args.term (none_from_is_some _ c.in_err-index.ensures.found) c.in_err-index.ensures.unique phases
    (subst (λ (v : TerminalsView). Contains v.listed (c.args.term, phases)) (sym c.self.view_is) has))

pub returns-clause-found : goal.returns-clause-found
returns-clause-found c =
    let entry : Term × PhaseSet = (c.in_ok-phases.field-0-0.now, c.in_ok-phases.phases.now) in
    let is : slice_get c.self.inside.phases.entries c.in_ok-index.index ≡ Some entry = sym c.in_ok-phases.ensures.entry in
    let at = found_at _ c.terms_are_compared.ensures.derived c.self.inside.phases.entries c.args.term c.in_ok-index.index entry (sym c.in_ok-index.ensures.index) is in
    subst (λ (v : TerminalsView). slice_get v.listed c.in_ok-index.index ≡ Some (c.args.term, c.in_ok-phases.phases.now)) c.self.view_is
    (is ∙ ap (λ (t : Term). Some (t, c.in_ok-phases.phases.now)) at)

pub returns-clause-every : goal.returns-clause-every
returns-clause-every c phases has =
    let entry : Term × PhaseSet = (c.in_ok-phases.field-0-0.now, c.in_ok-phases.phases.now) in
    let is : slice_get c.self.inside.phases.entries c.in_ok-index.index ≡ Some entry = sym c.in_ok-phases.ensures.entry in
    let own = found_every _ c.terms_are_compared.ensures.derived c.self.inside.phases.entries c.args.term c.in_ok-phases.phases.now phases
    (sym c.in_ok-index.ensures.value ∙ values_at c.self.inside.phases.entries c.in_ok-index.index entry is) c.in_ok-index.ensures.unique
    (subst (λ (v : TerminalsView). Contains v.listed (c.args.term, phases)) (sym c.self.view_is) has) in
    (c.in_ok-index.index, ap (λ (set : PhaseSet). Some (c.in_ok-index.index, set)) own)
