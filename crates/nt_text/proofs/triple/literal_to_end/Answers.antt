use Rattle.std.proofs.Common.{◌≡◌, ◌∙◌, List, ℕ, Some, true, false, sym, ap, subst}
use Rattle.std.specs.String.{string_bytes}
use Rattle.cim_words.specs.declared.object.Object.TheVariants as object
use Rattle.nt_text.specs.Ends.{HasLiteralEnd}
use Rattle.nt_text.proofs.triple.literal_to_end.Goals as goal

pub returns-in_default-clause-only : goal.returns-in_default-clause-only
returns-in_default-clause-only c end = absurd (rw c.in_default.is at (c.in_ok-text.ensures.only end.text end.behind end.characters))

pub returns-then-not-branch-clause-only : goal.returns-then-not-branch-clause-only
returns-then-not-branch-clause-only c end =
    let parts = rw c.in-Some.is at (c.in_ok-text.ensures.only end.text end.behind end.characters) in
    let P : List ℕ → Type 0 = HasLiteralEnd in
    absurd (let no : false ≡ true = sym c.if-not-branch.true ∙ c.in_ok-is_literal_end.ensures.1 (subst P (sym parts.1) end.ends) in cc)

pub returns-clause-found : goal.returns-clause-found
returns-clause-found c = (
  record {
    text = string_bytes c.in-Some.text;
    behind = c.in-Some.behind.now;
    characters = rw c.in-Some.is at c.in_ok-text.ensures.found;
    ends = c.in_ok-is_literal_end.ensures.0 c.if-not-branch.false;
  },
  ap object.Text (c.in_ok-of.ensures ∙ c.as_str.ensures.value),
)

pub returns-clause-only : goal.returns-clause-only
returns-clause-only c end =
    let parts = rw c.in-Some.is at (c.in_ok-text.ensures.only end.text end.behind end.characters) in
    ap (λ (l : List ℕ). Some (object.Text l)) (c.in_ok-of.ensures ∙ c.as_str.ensures.value ∙ parts.0)
