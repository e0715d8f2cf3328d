use Rattle.std.proofs.Common.{◌≡◌, List, ℕ, true, false, sym, subst}
use Rattle.nt_text.specs.Grammar.{IsEnd}
use Rattle.nt_text.proofs.Tags.{end_stops}
use Rattle.nt_text.proofs.ends.is_tag_end.Goals as goal

pub returns-in-Some : goal.returns-in-Some
returns-in-Some c = (
  λ is. record { rest = c.in-Some.rest.now; has = c.in-Some.ensures.found; ends = c.is_end.ensures.0 is },
  λ end.
      let P : List ℕ → Type 0 = IsEnd in
      c.is_end.ensures.1 (subst P (sym (c.in-Some.ensures.only end.rest (end_stops end.rest end.ends) end.has)) end.ends),
)

pub returns-in-None : goal.returns-in-None
returns-in-None c = (
  λ is. absurd (let e : false ≡ true = is in cc),
  λ end. absurd (c.in-None.ensures.only end.rest (end_stops end.rest end.ends) end.has),
)
