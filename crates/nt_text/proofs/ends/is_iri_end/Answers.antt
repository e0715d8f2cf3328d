use Rattle.std.proofs.Common.{◌≡◌, List, ℕ, true, false, sym, subst}
use Rattle.std.specs.String.{string_bytes}
use Rattle.nt_text.specs.Grammar.{IsEnd}
use Rattle.nt_text.proofs.ends.is_iri_end.Goals as goal

pub returns : goal.returns
returns c = (
  λ is. record {
    text = string_bytes c.in-Some.field-0-0;
    rest = c.in-Some.rest.now;
    iri = rw c.in-Some.is at c.in_ok-rest.ensures.found;
    ends = c.is_end.ensures.0 is;
  },
  λ end.
      let parts = rw c.in-Some.is at (c.in_ok-rest.ensures.only end.text end.rest end.iri) in
      let P : List ℕ → Type 0 = IsEnd in
      c.is_end.ensures.1 (subst P (sym parts.1) end.ends),
)

pub returns-in_default : goal.returns-in_default
returns-in_default c = (
  λ is. absurd (let e : false ≡ true = is in cc),
  λ end. absurd (rw c.in_default.is at (c.in_ok-rest.ensures.only end.text end.rest end.iri)),
)
