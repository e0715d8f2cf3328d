use Rattle.std.proofs.Common.{◌≡◌, ◌∷◌, ◌++◌, [], Contains, length, ap, ◌∙◌, subst, arith}
use Rattle.std.proofs.lemmas.List.{length_push}
use Rattle.feeder_trace.specs.Views.{TerminalsView}
use Rattle.feeder_trace.proofs.NumberingLemmas.{absent_none}
use Rattle.indexmap.proofs.CallerLemmas.{insert_entry-new}
use Rattle.feeder_trace.proofs.terminals.Terminals.enter.Goals as goal

entered : (c : goal.After-unwrap) → c.insert.new.self.entries ≡ c.self.inside.phases.entries ++ (c.args.term, c.args.phases) ∷ []
entered c =
    rw c.unwrap.ensures at c.insert.ensures.entries
    ∙ insert_entry-new _ c.self.inside.phases c.args.term c.args.phases
    (absent_none _ c.terms_are_compared.ensures.derived c.self.inside.phases.entries c.args.term
    (λ other h. c.requires.absent other (subst (λ (v : TerminalsView). Contains v.listed (c.args.term, other)) c.self.view_is h)))

pub invariant_of-self : goal.invariant_of-self
invariant_of-self c =
    omega (arith, ap length (entered c), length_push c.self.inside.phases.entries (c.args.term, c.args.phases), c.insert.ensures.spare, c.self.invariant)

pub returns-clause-entered : goal.returns-clause-entered
returns-clause-entered c = entered c ∙ ap (λ (v : TerminalsView). v.listed ++ (c.args.term, c.args.phases) ∷ []) c.self.view_is
