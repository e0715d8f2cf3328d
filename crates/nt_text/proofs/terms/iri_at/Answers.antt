use Rattle.std.proofs.Common.{List, ℕ, sym, subst}
use Rattle.nt_text.specs.Parts.{Spells}
use Rattle.nt_text.specs.declared.spelling.Coding.TheVariants.{Iri}
use Rattle.nt_text.proofs.Insides.{iri_free}
use Rattle.nt_text.proofs.TermForms.{iri_begins, iri_from}
use Rattle.nt_text.proofs.terms.iri_at.Goals as goal

pub returns-in_default-clause-only : goal.returns-in_default-clause-only
returns-in_default-clause-only c text rest term =
    absurd (rw c.in_default.is at (c.iri_inside.ensures.only term.inside rest (iri_free term.inside text term.spells) (iri_begins _ text rest term)))

pub returns-in-Some-2-clause-found : goal.returns-in-Some-2-clause-found
returns-in-Some-2-clause-found c = iri_from _ _ _ _ c.in-Some.ensures.found (rw c.in-Some-2.is at c.in_ok-text.ensures.found)

pub returns-in-Some-2-clause-only : goal.returns-in-Some-2-clause-only
returns-in-Some-2-clause-only c text rest term =
    let parts = c.in-Some.ensures.only term.inside rest (iri_free term.inside text term.spells) (iri_begins _ text rest term) in
    let P : List ℕ → Type 0 = λ l. Spells Iri l text in
    (rw c.in-Some-2.is at (c.in_ok-text.ensures.only text (subst P (sym parts.0) term.spells)), parts.1)

pub returns-in-None-clause-only : goal.returns-in-None-clause-only
returns-in-None-clause-only c text rest term =
    let parts = c.in-Some.ensures.only term.inside rest (iri_free term.inside text term.spells) (iri_begins _ text rest term) in
    let P : List ℕ → Type 0 = λ l. Spells Iri l text in
    absurd (rw c.in-None.is at (c.in_ok-text.ensures.only text (subst P (sym parts.0) term.spells)))
