-- What is spelled is one text.
use Rattle.std.proofs.Common.{◌≡◌, ℕ, List, [], ◌∷◌, ◌++◌, true, false, ◌⊎◌, inl, inr, IsTrue, length, refl, sym, ap, ◌∙◌, arith, subst}
use Rattle.std.proofs.lemmas.Str.{encode_same, char_from_byte}
use Rattle.std.specs.Char.{encode_utf8}
use Rattle.std.specs.List.{flat_map, AllByRecursion}
use Rattle.cim_words.specs.Written.{backslash}
use Rattle.nt_text.specs.Parts.{Part, raw, named, numbered, is_raw, named_character, has_digits, hex_number, IsPart, part_spelling, part_text, Spells}
use Rattle.nt_text.specs.declared.spelling.Coding.{Coding}
use Rattle.nt_text.proofs.Escapes.{digits_of, no_letter}
use Rattle.nt_text.proofs.Insides.{one_split}
use Rattle.nt_text.proofs.SpelledReads.{some_spelling}
use Rattle.nt_text.proofs.SpelledTexts.{backslash_marks}

raw_no_escape : (coding : Coding) (c : ℕ) → is_raw coding c ≡ true → (x behind : List ℕ) → encode_utf8 c ++ x ≡ backslash ∷ behind → ⊥
raw_no_escape coding c is x behind same =
    let marks : c ≡ backslash = char_from_byte (backslash ∷ behind) x c (sym same) (omega arith) (omega arith) in
    let no : true ≡ false = sym is ∙ ap (is_raw coding) marks ∙ backslash_marks coding in cc

letter_no_mark : (coding : Coding) (letter mark count : ℕ) → IsPart coding (named letter) → IsTrue (has_digits mark count) → letter ≡ mark → ⊥
letter_no_mark coding letter mark count is has same = at (digits_of mark count has)
  where
    P : ℕ → Type 0
    P l = IsPart coding (named l)

    at : ((mark ≡ 0x75) × (count ≡ 4)) ⊎ ((mark ≡ 0x55) × (count ≡ 8)) → ⊥
    at (inl four) = no_letter coding 0x75 refl (subst P (same ∙ four.0) is)
    at (inr eight) = no_letter coding 0x55 refl (subst P (same ∙ eight.0) is)

one_count : (mark m n : ℕ) → IsTrue (has_digits mark m) → IsTrue (has_digits mark n) → m ≡ n
one_count mark m n has has' = at (digits_of mark m has) (digits_of mark n has')
  where
    at : ((mark ≡ 0x75) × (m ≡ 4)) ⊎ ((mark ≡ 0x55) × (m ≡ 8)) → ((mark ≡ 0x75) × (n ≡ 4)) ⊎ ((mark ≡ 0x55) × (n ≡ 8)) → m ≡ n
    at (inl a) (inl b) = a.1 ∙ sym b.1
    at (inr a) (inr b) = a.1 ∙ sym b.1
    at (inl a) (inr b) = let x = a.0 in let y = b.0 in absurd (omega arith)
    at (inr a) (inl b) = let x = a.0 in let y = b.0 in absurd (omega arith)

-- a list begins with the spelling of one part's text
one_part : (coding : Coding) (p q : Part) (x y : List ℕ) → IsPart coding p → IsPart coding q → part_spelling p ++ x ≡ part_spelling q ++ y
    → (part_text p ≡ part_text q) × (x ≡ y)
one_part coding (raw c) (raw d) x y is is' same = let both = encode_same c d x y same in (ap encode_utf8 both.0, both.1)
one_part coding (raw c) (named letter) x y is is' same = absurd (raw_no_escape coding c is.1 x (letter ∷ y) same)
one_part coding (raw c) (numbered mark digits) x y is is' same = absurd (raw_no_escape coding c is.1 x (mark ∷ (digits ++ y)) same)
one_part coding (named letter) (raw d) x y is is' same = absurd (raw_no_escape coding d is'.1 y (letter ∷ x) (sym same))
one_part coding (named letter) (named other) x y is is' same =
    let letters : letter ≡ other = cc in
    let rests : x ≡ y = cc in (ap (λ (l : ℕ). encode_utf8 (named_character l)) letters, rests)
one_part coding (named letter) (numbered mark digits) x y is is' same =
    let marks : letter ≡ mark = cc in absurd (letter_no_mark coding letter mark (length digits) is is'.0 marks)
one_part coding (numbered mark digits) (raw d) x y is is' same = absurd (raw_no_escape coding d is'.1 y (mark ∷ (digits ++ x)) (sym same))
one_part coding (numbered mark digits) (named letter) x y is is' same =
    let marks : letter ≡ mark = cc in absurd (letter_no_mark coding letter mark (length digits) is' is.0 marks)
one_part coding (numbered mark digits) (numbered mark' digits') x y is is' same =
    let marks : mark ≡ mark' = cc in
    let tails : digits ++ x ≡ digits' ++ y = cc in
    let P : ℕ → Type 0 = λ m. IsTrue (has_digits m (length digits)) in
    let counts = one_count mark' (length digits) (length digits') (subst P marks is.0) is'.0 in
    let split = one_split digits digits' x y counts tails in
    (ap (λ (l : List ℕ). encode_utf8 (hex_number l)) split.0, split.1)

one_text_at : (coding : Coding) (a b : List Part) → AllByRecursion (IsPart coding) a → AllByRecursion (IsPart coding) b
    → flat_map part_spelling a ≡ flat_map part_spelling b → flat_map part_text a ≡ flat_map part_text b
one_text_at coding [] [] each each' same = refl
one_text_at coding [] (q ∷ b) each each' same = absurd (some_spelling coding q (flat_map part_spelling b) same)
one_text_at coding (p ∷ a) [] each each' same = absurd (some_spelling coding p (flat_map part_spelling a) (sym same))
one_text_at coding (p ∷ a) (q ∷ b) each each' same =
    let first = one_part coding p q (flat_map part_spelling a) (flat_map part_spelling b) each.0 each'.0 same in
    let rest = one_text_at coding a b each.1 each'.1 first.1 in
    let texts = first.0 in cc

-- what is spelled is one text
pub one_text : (coding : Coding) (spelled s t : List ℕ) → Spells coding spelled s → Spells coding spelled t → s ≡ t
one_text coding spelled s t spells spells' =
    spells.characters ∙ one_text_at coding spells.parts spells'.parts spells.each spells'.each (sym spells.spelling ∙ spells'.spelling) ∙ sym spells'.characters
