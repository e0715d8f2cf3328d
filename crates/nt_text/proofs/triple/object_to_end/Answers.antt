use Rattle.std.proofs.Common.{◌≡◌, ◌∙◌, Some, None, IfOk, inl, inr, sym, ap, subst}
use Rattle.cim_words.specs.Object.{object_of}
use Rattle.cim_words.specs.declared.object.Object.{Object}
use Rattle.nt_text.proofs.LiteralEnds.{object_to_end, iri_no_literal}
use Rattle.nt_text.proofs.triple.object_to_end.Goals as goal

pub returns-in-Some-clause-only : goal.returns-in-Some-clause-only
returns-in-Some-clause-only c thing has = elim (object_to_end c.args.bytes.now thing has) [
  | inl named ↦ (rw c.in-Some.is at (c.in_ok-object.ensures.only named.0)) ∙ ap Some (sym named.1)
  | inr literal ↦
      let found = rw c.in-Some.is at c.in_ok-object.ensures.found in
      absurd (iri_no_literal _ _ _ _ _ found.0.iri literal.0.characters)
]

pub returns-in-None-clause-only : goal.returns-in-None-clause-only
returns-in-None-clause-only c thing has = elim (object_to_end c.args.bytes.now thing has) [
  | inl named ↦ absurd (let no : None ≡ Some (object_of named.0.text) = rw c.in-None.is at (c.in_ok-object.ensures.only named.0) in cc)
  | inr literal ↦
      let P : Object → Type 0 = λ o. IfOk c.literal_to_end.result (λ found. found ≡ Some o) in
      subst P (sym literal.1) (c.literal_to_end.ensures.only literal.0)
]
