use Rattle.std.proofs.Common.{◌≡◌, ◌∙◌, List, ℕ, Some, true, false, refl, sym, ap, subst}
use Rattle.std.specs.String.{string_bytes}
use Rattle.cim_words.specs.Object.{object_of}
use Rattle.nt_text.specs.Grammar.{IsEnd}
use Rattle.nt_text.proofs.triple.named_to_end.Goals as goal

pub returns-in_default-clause-only : goal.returns-in_default-clause-only
returns-in_default-clause-only c end = absurd (rw c.in_default.is at (c.in_ok-text.ensures.only end.text end.rest end.iri))

pub returns-then-not-is_end-clause-only : goal.returns-then-not-is_end-clause-only
returns-then-not-is_end-clause-only c end =
    let parts = rw c.in-Some.is at (c.in_ok-text.ensures.only end.text end.rest end.iri) in
    let P : List ℕ → Type 0 = IsEnd in
    absurd (let no : false ≡ true = c.if-not-is_end.ensures.1 (subst P (sym parts.1) end.ends) in cc)

pub returns-clause-found : goal.returns-clause-found
returns-clause-found c = (
  record {
    text = string_bytes c.in-Some.text;
    rest = c.in-Some.rest.now;
    iri = rw c.in-Some.is at c.in_ok-text.ensures.found;
    ends = c.if-not-is_end.ensures.0 refl;
  },
  c.in_ok-of_iri.ensures.names ∙ ap object_of c.as_str.ensures.value,
)

pub returns-clause-only : goal.returns-clause-only
returns-clause-only c end =
    let parts = rw c.in-Some.is at (c.in_ok-text.ensures.only end.text end.rest end.iri) in
    ap Some (c.in_ok-of_iri.ensures.names ∙ ap object_of (c.as_str.ensures.value ∙ parts.0))
