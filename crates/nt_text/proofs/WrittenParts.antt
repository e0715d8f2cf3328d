-- What is written of a text spells it part by part, and is UTF-8.
use Rattle.std.proofs.Common.{◌≡◌, ℕ, ◌<◌, ◌/◌, ◌%◌, List, [], ◌∷◌, ◌++◌, Bool, true, false, not, ◌||◌, ◌==◌, ◌⊎◌, inl, inr, nat_lt, length, refl, sym, ap, ◌∙◌, arith, subst}
use Rattle.std.proofs.lemmas.Bool.{and_parts, eqb-true}
use Rattle.std.proofs.lemmas.Bool.Decides.{nat_tests}
use Rattle.std.proofs.lemmas.List.{append-nil}
use Rattle.std.proofs.lemmas.List.Concat.{flat_map-append}
use Rattle.std.proofs.lemmas.Str.{encode_ascii, IsUtf8-append, IsUtf8-encode, IsUtf8-nil, IsUtf8-from_ascii}
use Rattle.std.proofs.lemmas.Str.Ascii.{IsAscii-cons, IsAscii-nil}
use Rattle.std.specs.Char.{IsScalar, encode_utf8, digit_value}
use Rattle.std.specs.List.{flat_map, list_all, AllByRecursion}
use Rattle.std.specs.Str.{IsUtf8, IsAscii, encode_utf8_all, all_scalars}
use Rattle.plain_laws.proofs.Filters.{flat_map_itself}
use Rattle.cim_words.specs.Written.{is_iri_character, iri_spelling, literal_spelling, hex_digit, backslash, quote, line_feed, carriage_return}
use Rattle.nt_text.specs.Parts.{Part, raw, named, numbered, is_raw, is_name, are_hex, hex_number, IsPart, part_spelling, part_text, Spells}
use Rattle.nt_text.specs.Spelling.{spelling_of}
use Rattle.nt_text.specs.declared.spelling.Coding.{Coding}
use Rattle.nt_text.specs.declared.spelling.Coding.TheVariants.{Iri, Literal}
use Rattle.nt_text.proofs.Escapes.{digits_of}
use Rattle.nt_text.proofs.HexDigits.{digit_value-hex_digit}
use Rattle.nt_text.proofs.SpelledTexts.{raw_bytes, Spells-append, Spells-part, Spells-nil}

-- a character that does not stand for itself is spelled by one part
record IsEscaped (coding : Coding) (c : ℕ) : Type 0 where
  part : Part
  is_part : IsPart coding part
  spelling : part_spelling part ≡ spelling_of coding c
  texts : part_text part ≡ encode_utf8 c
  ascii : c < 128

escaped_ascii : (c : ℕ) → is_iri_character c ≡ false → c < 128
unfolding is_iri_character
escaped_ascii c is = grind (arith, nat_tests)

abbrev four_digits : ℕ → List ℕ
four_digits c = 0x30 ∷ 0x30 ∷ hex_digit (c / 16) ∷ hex_digit (c % 16) ∷ []

four_are_hex : (c : ℕ) → c < 128 → are_hex (four_digits c) ≡ true
four_are_hex c low = rw (digit_value-hex_digit (c / 16) (omega arith), digit_value-hex_digit (c % 16) (omega arith)) (grind (arith, nat_tests))

four_number : (c : ℕ) → c < 128 → hex_number (four_digits c) ≡ c
four_number c low = rw (digit_value-hex_digit (c / 16) (omega arith), digit_value-hex_digit (c % 16) (omega arith)) (omega arith)

iri_escaped : (c : ℕ) → IsScalar c → is_iri_character c ≡ false → IsEscaped Iri c
unfolding iri_spelling
iri_escaped c scalar is =
    let low = escaped_ascii c is in
    let number = four_number c low in
    let P : ℕ → Type 0 = IsScalar in
    record {
      part = numbered 0x75 (four_digits c);
      is_part = (refl, four_are_hex c low, subst P (sym number) scalar);
      spelling = rw is refl;
      texts = ap encode_utf8 number;
      ascii = low;
    }

literal_escaped_at : (c : ℕ) (q b l r : Bool) → (c == quote) ≡ q → (c == backslash) ≡ b → (c == line_feed) ≡ l → (c == carriage_return) ≡ r
    → not (q || b || l || r) ≡ false → IsEscaped Literal c
unfolding literal_spelling
literal_escaped_at c true b l r hq hb hl hr is =
    let same : c ≡ quote = eqb-true c quote hq in
    record { part = named quote; is_part = refl; spelling = rw hq refl; texts = ap encode_utf8 (sym same); ascii = omega arith }
literal_escaped_at c false true l r hq hb hl hr is =
    let same : c ≡ backslash = eqb-true c backslash hb in
    record { part = named backslash; is_part = refl; spelling = rw (hq, hb) refl; texts = ap encode_utf8 (sym same); ascii = omega arith }
literal_escaped_at c false false true r hq hb hl hr is =
    let same : c ≡ line_feed = eqb-true c line_feed hl in
    record { part = named 0x6E; is_part = refl; spelling = rw (hq, hb, hl) refl; texts = ap encode_utf8 (sym same); ascii = omega arith }
literal_escaped_at c false false false true hq hb hl hr is =
    let same : c ≡ carriage_return = eqb-true c carriage_return hr in
    record { part = named 0x72; is_part = refl; spelling = rw (hq, hb, hl, hr) refl; texts = ap encode_utf8 (sym same); ascii = omega arith }
literal_escaped_at c false false false false hq hb hl hr is = absurd (let no : true ≡ false = is in cc)

escaped : (coding : Coding) (c : ℕ) → IsScalar c → is_raw coding c ≡ false → IsEscaped coding c
escaped Iri c scalar is = iri_escaped c scalar is
escaped Literal c scalar is = literal_escaped_at c (c == quote) (c == backslash) (c == line_feed) (c == carriage_return) refl refl refl refl is

-- a byte that stands for itself is spelled as it is
literal_raw_at : (b : ℕ) (q k l r : Bool) → (b == quote) ≡ q → (b == backslash) ≡ k → (b == line_feed) ≡ l → (b == carriage_return) ≡ r
    → not (q || k || l || r) ≡ true → literal_spelling b ≡ b ∷ []
unfolding literal_spelling
literal_raw_at b false false false false hq hb hl hr is = rw (hq, hb, hl, hr) refl
literal_raw_at b true k l r hq hb hl hr is = absurd (let no : false ≡ true = is in cc)
literal_raw_at b false true l r hq hb hl hr is = absurd (let no : false ≡ true = is in cc)
literal_raw_at b false false true r hq hb hl hr is = absurd (let no : false ≡ true = is in cc)
literal_raw_at b false false false true hq hb hl hr is = absurd (let no : false ≡ true = is in cc)

raw_spelling : (coding : Coding) (b : ℕ) → is_raw coding b ≡ true → spelling_of coding b ≡ b ∷ []
unfolding iri_spelling
raw_spelling Iri b is = rw is refl
raw_spelling Literal b is = literal_raw_at b (b == quote) (b == backslash) (b == line_feed) (b == carriage_return) refl refl refl refl is

raw_spellings : (coding : Coding) (bytes : List ℕ) → list_all (is_raw coding) bytes ≡ true → flat_map (spelling_of coding) bytes ≡ bytes
raw_spellings coding bytes all = flat_map_itself (is_raw coding) (spelling_of coding) (raw_spelling coding) bytes all

character_at : (coding : Coding) (c : ℕ) → IsScalar c → (b : Bool) → is_raw coding c ≡ b → Spells coding (flat_map (spelling_of coding) (encode_utf8 c)) (encode_utf8 c)
character_at coding c scalar true is =
    let P : List ℕ → Type 0 = λ l. Spells coding l (encode_utf8 c) in
    subst P (sym (raw_spellings coding (encode_utf8 c) (raw_bytes coding c is))) (Spells-part coding (raw c) (scalar, is))
character_at coding c scalar false is =
    let form = escaped coding c scalar is in
    let spelled : part_spelling form.part ≡ flat_map (spelling_of coding) (encode_utf8 c) =
    form.spelling ∙ sym (append-nil (spelling_of coding c)) ∙ ap (flat_map (spelling_of coding)) (sym (encode_ascii c form.ascii)) in
    let P : List ℕ → Type 0 = λ l. Spells coding l (encode_utf8 c) in
    let Q : List ℕ → Type 0 = λ l. Spells coding (part_spelling form.part) l in
    subst P spelled (subst Q form.texts (Spells-part coding form.part form.is_part))

characters : (coding : Coding) (cs : List ℕ) → all_scalars cs ≡ true → Spells coding (flat_map (spelling_of coding) (encode_utf8_all cs)) (encode_utf8_all cs)
characters coding [] scalars = Spells-nil coding
characters coding (c ∷ cs) scalars =
    let are = and_parts _ _ scalars in
    let P : List ℕ → Type 0 = λ l. Spells coding l (encode_utf8 c ++ encode_utf8_all cs) in
    subst P (sym (flat_map-append (spelling_of coding) (encode_utf8 c) (encode_utf8_all cs)))
    (Spells-append coding (flat_map (spelling_of coding) (encode_utf8 c)) (flat_map (spelling_of coding) (encode_utf8_all cs)) (encode_utf8 c) (encode_utf8_all cs)
    (character_at coding c are.0 (is_raw coding c) refl) (characters coding cs are.1))

-- what is written of a text spells it
pub Spells-written : (coding : Coding) (text : List ℕ) → IsUtf8 text → Spells coding (flat_map (spelling_of coding) text) text
Spells-written coding text utf8 =
    let P : List ℕ → Type 0 = λ l. Spells coding (flat_map (spelling_of coding) l) l in
    subst P utf8.1.1 (characters coding utf8.0 utf8.1.0)

-- what spells a text is itself UTF-8
name_ascii : (letter : ℕ) → is_name letter ≡ true → letter < 128
name_ascii letter is = grind (arith, nat_tests)

hex_ascii : (digit : ℕ) → nat_lt (digit_value digit) 16 ≡ true → digit < 128
hex_ascii digit is = grind (arith, nat_tests)

digits_ascii : (digits : List ℕ) → are_hex digits ≡ true → IsAscii digits
digits_ascii [] hex = IsAscii-nil
digits_ascii (digit ∷ digits) hex =
    let both = and_parts (nat_lt (digit_value digit) 16) (are_hex digits) hex in
    IsAscii-cons digit digits (hex_ascii digit both.0) (digits_ascii digits both.1)

part_utf8 : (coding : Coding) (part : Part) → IsPart coding part → IsUtf8 (part_spelling part)
part_utf8 coding (raw c) is = IsUtf8-encode c is.0
part_utf8 Iri (named letter) is = absurd is
part_utf8 Literal (named letter) is =
    IsUtf8-from_ascii (backslash ∷ letter ∷ []) (IsAscii-cons backslash (letter ∷ []) (omega arith) (IsAscii-cons letter [] (name_ascii letter is) IsAscii-nil))
part_utf8 coding (numbered mark digits) is =
    IsUtf8-from_ascii (backslash ∷ mark ∷ digits)
    (IsAscii-cons backslash (mark ∷ digits) (omega arith) (IsAscii-cons mark digits (mark_ascii (digits_of mark (length digits) is.0)) (digits_ascii digits is.1)))
  where
    mark_ascii : ((mark ≡ 0x75) × (length digits ≡ 4)) ⊎ ((mark ≡ 0x55) × (length digits ≡ 8)) → mark < 128
    mark_ascii (inl four) = let m = four.0 in omega arith
    mark_ascii (inr eight) = let m = eight.0 in omega arith

parts_utf8 : (coding : Coding) (parts : List Part) → AllByRecursion (IsPart coding) parts → IsUtf8 (flat_map part_spelling parts)
parts_utf8 coding [] each = IsUtf8-nil
parts_utf8 coding (part ∷ parts) each =
    IsUtf8-append (part_spelling part) (flat_map part_spelling parts) (part_utf8 coding part each.0) (parts_utf8 coding parts each.1)

pub Spells-utf8 : (coding : Coding) (spelled text : List ℕ) → Spells coding spelled text → IsUtf8 spelled
Spells-utf8 coding spelled text spells = let P : List ℕ → Type 0 = IsUtf8 in subst P (sym spells.spelling) (parts_utf8 coding spells.parts spells.each)
