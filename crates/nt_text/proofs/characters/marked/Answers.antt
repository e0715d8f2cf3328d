use Rattle.std.proofs.Common.{◌≡◌, arith, refl, sym, ◌∙◌, ap, subst, ℕ}
use Rattle.std.specs.Char.{encode_utf8}
use Rattle.nt_text.specs.Parts.{named, has_digits, IsPart}
use Rattle.nt_text.proofs.Escapes.{letter_of, four_of, eight_of, marked_part, no_letter, numbered_is, numbered_text}
use Rattle.nt_text.proofs.characters.marked.Goals as goal

pub returns-in-117-clause-found : goal.returns-in-117-clause-found
returns-in-117-clause-found c =
    numbered_is c.args.coding c.args.mark 4 c.args.after.now c.numbered.result (let is : c.args.mark ≡ 117 = omega arith in ap (λ (m : ℕ). has_digits m 4) is) c.numbered.ensures.found

pub returns-in-117-clause-only : goal.returns-in-117-clause-only
returns-in-117-clause-only c part rest is same =
    elim (marked_part c.args.coding part c.args.mark c.args.after.now rest is same) [
      | letter_of letter text behind ↦
          absurd (no_letter c.args.coding 117 refl (let P : ℕ → Type 0 = λ m. IsPart c.args.coding (named m) in let u : c.args.mark ≡ 117 = omega arith in subst P u letter))
      | four_of digits u many hex scalar text behind ↦ numbered_text part digits rest c.numbered.result text (c.numbered.ensures.only digits rest many hex scalar behind)
      | eight_of digits u many hex scalar text behind ↦ absurd (omega arith)
    ]

pub returns-in-85-clause-found : goal.returns-in-85-clause-found
returns-in-85-clause-found c =
    numbered_is c.args.coding c.args.mark 8 c.args.after.now c.numbered-in-85.result (let is : c.args.mark ≡ 85 = omega arith in ap (λ (m : ℕ). has_digits m 8) is) c.numbered-in-85.ensures.found

pub returns-in-85-clause-only : goal.returns-in-85-clause-only
returns-in-85-clause-only c part rest is same =
    elim (marked_part c.args.coding part c.args.mark c.args.after.now rest is same) [
      | letter_of letter text behind ↦
          absurd (no_letter c.args.coding 85 refl (let P : ℕ → Type 0 = λ m. IsPart c.args.coding (named m) in let u : c.args.mark ≡ 85 = omega arith in subst P u letter))
      | four_of digits u many hex scalar text behind ↦ absurd (omega arith)
      | eight_of digits u many hex scalar text behind ↦ numbered_text part digits rest c.numbered-in-85.result text (c.numbered-in-85.ensures.only digits rest many hex scalar behind)
    ]

pub returns-in_ok-named-in_default-clause-found : goal.returns-in_ok-named-in_default-clause-found
returns-in_ok-named-in_default-clause-found c =
    let found = c.in_ok-named-in_default.ensures.found in
    (named c.args.mark, found.0, ap encode_utf8 (sym found.1), refl)

pub returns-in_ok-named-in_default-clause-only : goal.returns-in_ok-named-in_default-clause-only
returns-in_ok-named-in_default-clause-only c part rest is same =
    elim (marked_part c.args.coding part c.args.mark c.args.after.now rest is same) [
      | letter_of letter text behind ↦ (text ∙ ap encode_utf8 (sym (c.in_ok-named-in_default.ensures.only letter)), behind)
      | four_of digits u many hex scalar text behind ↦ absurd (omega arith)
      | eight_of digits u many hex scalar text behind ↦ absurd (omega arith)
    ]

pub returns-in_err-named-in_default-clause-only : goal.returns-in_err-named-in_default-clause-only
returns-in_err-named-in_default-clause-only c part rest is same =
    elim (marked_part c.args.coding part c.args.mark c.args.after.now rest is same) [
      | letter_of letter text behind ↦ absurd (c.in_err-named-in_default.ensures.only letter)
      | four_of digits u many hex scalar text behind ↦ absurd (omega arith)
      | eight_of digits u many hex scalar text behind ↦ absurd (omega arith)
    ]
