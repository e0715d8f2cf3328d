use Rattle.std.proofs.Common.{List, ℕ, sym, subst}
use Rattle.nt_text.specs.Ends.{HasIriEnd, HasTagEnd, HasLiteralEnd}
use Rattle.nt_text.proofs.LiteralEnds.{plain, typed, tagged, literal_end, plain_end, typed_end, tagged_end, plain_not_typed, plain_not_tagged, typed_not_tagged, same_test}
use Rattle.nt_text.proofs.ends.is_literal_end.Goals as goal

pub returns-in-Some : goal.returns-in-Some
returns-in-Some c =
    same_test c.is_iri_end.result (HasIriEnd c.in-Some.datatype.now) (HasLiteralEnd c.args.bytes.now) c.is_iri_end.ensures
    (typed_end c.args.bytes.now c.in-Some.datatype.now c.in-Some.ensures.found)
    (λ end. elim (literal_end c.args.bytes.now end) [
      | plain ends ↦ absurd (plain_not_typed c.args.bytes.now c.in-Some.datatype.now ends c.in-Some.ensures.found)
      | typed behind begins has ↦ let P : List ℕ → Type 0 = HasIriEnd in subst P (sym (c.in-Some.ensures.only behind begins)) has
      | tagged behind begins has ↦ absurd (typed_not_tagged c.args.bytes.now c.in-Some.datatype.now behind c.in-Some.ensures.found begins)
    ])

pub returns-in-Some-after_mark : goal.returns-in-Some-after_mark
returns-in-Some-after_mark c = (
  λ is. tagged_end c.args.bytes.now c.in-Some-after_mark.tag.now c.in-Some-after_mark.ensures.found (c.is_tag_end.ensures.0 is),
  λ end. elim (literal_end c.args.bytes.now end) [
    | plain ends ↦ absurd (plain_not_tagged c.args.bytes.now c.in-Some-after_mark.tag.now ends c.in-Some-after_mark.ensures.found)
    | typed behind begins has ↦ absurd (typed_not_tagged c.args.bytes.now behind c.in-Some-after_mark.tag.now begins c.in-Some-after_mark.ensures.found)
    | tagged behind begins has ↦
        let P : List ℕ → Type 0 = HasTagEnd in
        c.is_tag_end.ensures.1 (subst P (sym (c.in-Some-after_mark.ensures.only behind begins)) has)
  ],
)

pub returns-in-None : goal.returns-in-None
returns-in-None c = (
  λ is. plain_end c.args.bytes.now (c.is_end.ensures.0 is),
  λ end. elim (literal_end c.args.bytes.now end) [
    | plain ends ↦ c.is_end.ensures.1 ends
    | typed behind begins has ↦ absurd (rw c.in_default.is at (c.after_mark.ensures.only behind begins))
    | tagged behind begins has ↦ absurd (c.in-None.ensures.only behind begins)
  ],
)
