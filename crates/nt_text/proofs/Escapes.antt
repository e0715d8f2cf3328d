-- Escapes: a backslash and a letter, or a backslash, a mark and digits.
use Rattle.std.proofs.Common.{◌≡◌, ℕ, ◌<◌, List, [], ◌∷◌, ◌++◌, true, false, ◌&&◌, ◌==◌, ◌⊎◌, inl, inr, length, IsTrue, Option, Some, None, IfSome, IsSomeAnd, Bor, refl, sym, ap, ◌∙◌, arith, subst, ⊎_elim}
use Rattle.std.proofs.lemmas.Str.{char_from_byte}
use Rattle.std.specs.Char.{IsScalar, encode_utf8}
use Rattle.std.proofs.lemmas.Bool.{and_parts, eqb-true, or_cases}
use Rattle.cim_words.specs.Written.{backslash}
use Rattle.nt_text.specs.Parts.{Part, raw, named, numbered, is_raw, is_name, named_character, has_digits, are_hex, hex_number, IsPart, part_spelling, part_text}
use Rattle.nt_text.specs.declared.spelling.Coding.{Coding}
use Rattle.nt_text.specs.declared.spelling.Coding.TheVariants.{Iri, Literal}
use Rattle.nt_text.proofs.SpelledTexts.{backslash_marks}

-- what stands after a backslash: a letter, or a mark with its digits
pub data Marked (coding : Coding) (part : Part) (mark : ℕ) (after rest : List ℕ) : Type 0 where
  letter_of : IsPart coding (named mark) → part_text part ≡ encode_utf8 (named_character mark) → after ≡ rest → Marked coding part mark after rest
  four_of : (digits : List ℕ) → mark ≡ 0x75 → length digits ≡ 4 → IsTrue (are_hex digits) → IsScalar (hex_number digits)
      → part_text part ≡ encode_utf8 (hex_number digits) → after ≡ digits ++ rest → Marked coding part mark after rest
  eight_of : (digits : List ℕ) → mark ≡ 0x55 → length digits ≡ 8 → IsTrue (are_hex digits) → IsScalar (hex_number digits)
      → part_text part ≡ encode_utf8 (hex_number digits) → after ≡ digits ++ rest → Marked coding part mark after rest

pub digits_of : (mark count : ℕ) → IsTrue (has_digits mark count) → ((mark ≡ 0x75) × (count ≡ 4)) ⊎ ((mark ≡ 0x55) × (count ≡ 8))
digits_of mark count has =
    ⊎_elim
    (λ is. let parts = and_parts (mark == 0x75) (count == 4) is in inl (eqb-true mark 0x75 parts.0, eqb-true count 4 parts.1))
    (λ is. let parts = and_parts (mark == 0x55) (count == 8) is in inr (eqb-true mark 0x55 parts.0, eqb-true count 8 parts.1))
    (or_cases (mark == 0x75 && count == 4) (mark == 0x55 && count == 8) has)

pub marked_part : (coding : Coding) (part : Part) (mark : ℕ) (after rest : List ℕ) → IsPart coding part → backslash ∷ (mark ∷ after) ≡ part_spelling part ++ rest
    → Marked coding part mark after rest
marked_part coding (raw c) mark after rest is same =
    let marks : c ≡ backslash = char_from_byte (backslash ∷ (mark ∷ after)) rest c same (omega arith) (omega arith) in
    let no : true ≡ false = sym is.1 ∙ ap (is_raw coding) marks ∙ backslash_marks coding in absurd cc
marked_part coding (named letter) mark after rest is same =
    let letters : letter ≡ mark = cc in
    let behind : after ≡ rest = cc in
    letter_of (let P : ℕ → Type 0 = λ m. IsPart coding (named m) in subst P letters is) (ap (λ (m : ℕ). encode_utf8 (named_character m)) letters) behind
marked_part coding (numbered m digits) mark after rest is same =
    let marks : mark ≡ m = cc in
    let behind : after ≡ digits ++ rest = cc in
    elim (digits_of m (length digits) is.0) as (λ _. Marked coding (numbered m digits) mark after rest) [
      | inl four ↦ four_of digits (marks ∙ four.0) four.1 is.1 is.2 refl behind
      | inr eight ↦ eight_of digits (marks ∙ eight.0) eight.1 is.1 is.2 refl behind
    ]

-- no letter is a mark of digits
pub no_letter : (coding : Coding) (letter : ℕ) → is_name letter ≡ false → IsPart coding (named letter) → ⊥
no_letter Iri letter none is = is
no_letter Literal letter none is = let no : true ≡ false = sym is ∙ none in absurd cc

-- a number is a part
abbrev pub IsEscape : Coding → List ℕ → ℕ → List ℕ → Type 0
IsEscape coding bytes character rest = (part : Part) × IsPart coding part × (part_text part ≡ encode_utf8 character) × (bytes ≡ part_spelling part ++ rest)

pub numbered_is : (coding : Coding) (mark count : ℕ) (after : List ℕ) (o : Option (ℕ × Bor (List ℕ))) → IsTrue (has_digits mark count)
    → IfSome o (λ x. (digits : List ℕ) × (length digits ≡ count) × IsTrue (are_hex digits) × IsScalar (hex_number digits) × (x.0 ≡ hex_number digits) × (after ≡ digits ++ x.1.now))
    → IfSome o (λ x. IsEscape coding (backslash ∷ (mark ∷ after)) x.0 x.1.now)
numbered_is coding mark count after None has found = tt
numbered_is coding mark count after (Some x) has (digits, many, hex, scalar, character, layout) = (
  numbered mark digits,
  (ap (has_digits mark) many ∙ has, hex, scalar),
  ap encode_utf8 (sym character),
  ap (λ (l : List ℕ). backslash ∷ (mark ∷ l)) layout,
)

-- what is read as a number is the number
pub numbered_text : (part : Part) (digits rest : List ℕ) (o : Option (ℕ × Bor (List ℕ))) → part_text part ≡ encode_utf8 (hex_number digits)
    → IsSomeAnd o (λ x. (x.0 ≡ hex_number digits) × (x.1.now ≡ rest)) → IsSomeAnd o (λ x. (part_text part ≡ encode_utf8 x.0) × (x.1.now ≡ rest))
numbered_text part digits rest (Some x) text is = (text ∙ ap encode_utf8 (sym is.0), is.1)
numbered_text part digits rest None text is = is

-- no escape is a backslash alone
pub no_escape : (coding : Coding) (part : Part) (behind rest : List ℕ) → IsPart coding part → length behind < 1 → backslash ∷ behind ≡ part_spelling part ++ rest → ⊥
no_escape coding part (byte ∷ behind) rest is none same = omega arith
no_escape coding (raw c) [] rest is none same =
    let marks : c ≡ backslash = char_from_byte (backslash ∷ []) rest c same (omega arith) (omega arith) in
    let no : true ≡ false = sym is.1 ∙ ap (is_raw coding) marks ∙ backslash_marks coding in absurd cc
no_escape coding (named letter) [] rest is none same = absurd cc
no_escape coding (numbered m digits) [] rest is none same = absurd cc
