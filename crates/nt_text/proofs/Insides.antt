-- What stands between the marks of a term: no IRI that is spelled holds its end, and no literal a quote that is not escaped.
use Rattle.std.proofs.Common.{◌≡◌, ◌≢◌, ℕ, suc, ◌+◌, List, [], ◌∷◌, ◌++◌, true, false, ◌==◌, ◌⊎◌, inl, inr, IsTrue, length, Some, nat_lt, refl, sym, ap, ◌∙◌, arith, subst, append_assoc, length-append}
use Rattle.std.proofs.lemmas.Bool.Decides.{nat_tests}
use Rattle.std.specs.Char.{encode_utf8, digit_value}
use Rattle.std.specs.List.{flat_map, AllByRecursion}
use Rattle.std.proofs.lemmas.Bool.{and_parts}
use Rattle.cim_words.specs.Written.{is_iri_character, backslash, quote}
use Rattle.nt_text.specs.Cut.{IsFreeOf}
use Rattle.nt_text.specs.Parts.{Part, raw, named, numbered, is_raw, are_hex, IsPart, part_spelling, Spells}
use Rattle.nt_text.specs.Quotes.{closing_at}
use Rattle.nt_text.specs.Spelling.{closing}
use Rattle.nt_text.specs.declared.spelling.Coding.TheVariants.{Iri, Literal}
use Rattle.nt_text.proofs.Cuts.{IsFreeOf-append}
use Rattle.nt_text.proofs.Escapes.{digits_of}
use Rattle.nt_text.proofs.SpelledTexts.{backslash_marks, free_character}

-- a mark that is no hexadecimal digit stands in no digits
pub hex_free : (mark : ℕ) (digits : List ℕ) → nat_lt (digit_value mark) 16 ≡ false → IsTrue (are_hex digits) → IsFreeOf mark digits
hex_free mark [] no_digit hex = tt
hex_free mark (digit ∷ digits) no_digit hex =
    let both = and_parts (nat_lt (digit_value digit) 16) (are_hex digits) hex in
    ((λ is. let no : true ≡ false = sym both.0 ∙ ap (λ (d : ℕ). nat_lt (digit_value d) 16) is ∙ no_digit in absurd cc), hex_free mark digits no_digit both.1)

closing_no_iri : is_iri_character closing ≡ false
unfolding is_iri_character
closing_no_iri = refl

-- no part of an IRI holds its end
closing_free : (part : Part) → IsPart Iri part → IsFreeOf closing (part_spelling part)
closing_free (raw c) is = free_character closing c (omega arith) (λ same. let no : true ≡ false = sym is.1 ∙ ap is_iri_character same ∙ closing_no_iri in absurd cc)
closing_free (named letter) is = absurd is
closing_free (numbered mark digits) is =
    ((λ same. omega arith), (mark_other (digits_of mark (length digits) is.0), hex_free closing digits refl is.1))
  where
    mark_other : ((mark ≡ 0x75) × (length digits ≡ 4)) ⊎ ((mark ≡ 0x55) × (length digits ≡ 8)) → mark ≢ closing
    mark_other (inl four) same = let m = four.0 in omega arith
    mark_other (inr eight) same = let m = eight.0 in omega arith

parts_closing_free : (parts : List Part) → AllByRecursion (IsPart Iri) parts → IsFreeOf closing (flat_map part_spelling parts)
parts_closing_free [] each = tt
parts_closing_free (part ∷ parts) each = IsFreeOf-append closing (part_spelling part) (flat_map part_spelling parts) (closing_free part each.0) (parts_closing_free parts each.1)

pub iri_free : (inside text : List ℕ) → Spells Iri inside text → IsFreeOf closing inside
iri_free inside text spells = let P : List ℕ → Type 0 = IsFreeOf closing in subst P (sym spells.spelling) (parts_closing_free spells.parts spells.each)

-- bytes without quotes and backslashes do not end a literal
passes : (front more : List ℕ) (n : ℕ) → IsFreeOf quote front → IsFreeOf backslash front → closing_at false more ≡ Some n → closing_at false (front ++ more) ≡ Some (length front + n)
passes [] more n free free' at = at ∙ ap Some (let same : n ≡ 0 + n = omega arith in same)
passes (byte ∷ front) more n free free' at =
    let no_quote = free.0 in
    let no_backslash = free'.0 in
    let quotes : (byte == quote) ≡ false = grind (arith, nat_tests) in
    let escapes : (byte == backslash) ≡ false = grind (arith, nat_tests) in
    let more_is = passes front more n free.1 free'.1 at in
    let count : suc (length front + n) ≡ length (byte ∷ front) + n = omega arith in
    rw (quotes, escapes, more_is) (ap Some count)

quote_no_raw : is_raw Literal quote ≡ false
quote_no_raw = refl

part_passes : (part : Part) → IsPart Literal part → (more : List ℕ) (n : ℕ) → closing_at false more ≡ Some n → closing_at false (part_spelling part ++ more) ≡ Some (length (part_spelling part) + n)
part_passes (raw c) is more n at =
    passes (encode_utf8 c) more n
    (free_character quote c (omega arith) (λ same. let no : true ≡ false = sym is.1 ∙ ap (is_raw Literal) same ∙ quote_no_raw in absurd cc))
    (free_character backslash c (omega arith) (λ same. let no : true ≡ false = sym is.1 ∙ ap (is_raw Literal) same ∙ backslash_marks Literal in absurd cc)) at
part_passes (named letter) is more n at = rw at (ap Some (let same : suc (suc n) ≡ 2 + n = omega arith in same))
part_passes (numbered mark digits) is more n at =
    let behind = passes digits more n (hex_free quote digits refl is.1) (hex_free backslash digits refl is.1) at in
    rw behind (ap Some (let same : suc (suc (length digits + n)) ≡ length (backslash ∷ mark ∷ digits) + n = omega arith in same))

parts_close : (parts : List Part) (rest : List ℕ) → AllByRecursion (IsPart Literal) parts
    → closing_at false (flat_map part_spelling parts ++ quote ∷ rest) ≡ Some (length (flat_map part_spelling parts))
parts_close [] rest each = refl
parts_close (part ∷ parts) rest each =
    ap (closing_at false) (append_assoc (part_spelling part) (flat_map part_spelling parts) (quote ∷ rest))
    ∙ part_passes part each.0 (flat_map part_spelling parts ++ quote ∷ rest) (length (flat_map part_spelling parts)) (parts_close parts rest each.1)
    ∙ ap Some (sym (length-append (part_spelling part) (flat_map part_spelling parts)))

-- the first quote that is not escaped stands after what is spelled
pub literal_closes : (inside text rest : List ℕ) → Spells Literal inside text → closing_at false (inside ++ quote ∷ rest) ≡ Some (length inside)
literal_closes inside text rest spells =
    let P : List ℕ → Type 0 = λ l. closing_at false (l ++ quote ∷ rest) ≡ Some (length l) in
    subst P (sym spells.spelling) (parts_close spells.parts rest spells.each)

-- lists of one length that begin a list are one
pub one_split : (a b x y : List ℕ) → length a ≡ length b → a ++ x ≡ b ++ y → (a ≡ b) × (x ≡ y)
one_split [] [] x y long same = (refl, same)
one_split [] (d ∷ b) x y long same = absurd (omega arith)
one_split (c ∷ a) [] x y long same = absurd (omega arith)
one_split (c ∷ a) (d ∷ b) x y long same =
    let heads : c ≡ d = cc in
    let tails : a ++ x ≡ b ++ y = cc in
    let rest = one_split a b x y (omega arith) tails in
    let fronts = rest.0 in
    (cc, rest.1)

pub one_place : (bytes : List ℕ) (m n : ℕ) → closing_at false bytes ≡ Some m → closing_at false bytes ≡ Some n → m ≡ n
one_place bytes m n at at' = let same : Some m ≡ Some n = sym at ∙ at' in cc
