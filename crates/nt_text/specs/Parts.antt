-- How the characters of a text are spelled between the marks of an IRI or a literal (RDF 1.1 N-Triples, section 7).
use Rattle.std.specs.Prelude.{ℕ, ◌+◌, ◌*◌, ◌≡◌, List, [], ◌∷◌, length, Bool, IsTrue, ◌==◌, ◌||◌, ◌&&◌, not, nat_lt, nat_eq, codes, if◌then◌else◌}
use Rattle.std.specs.Char.{IsScalar, encode_utf8, digit_value}
use Rattle.std.specs.List.{flat_map, list_any, list_all, AllByRecursion}
use Rattle.cim_words.specs.Written.{is_iri_character, line_feed, carriage_return, quote, backslash}
use Rattle.nt_text.specs.declared.spelling.Coding.{Coding}
use Rattle.nt_text.specs.declared.spelling.Coding.TheVariants.{Iri, Literal}

-- a part of a text: a character that stands for itself, a backslash and a letter, or a backslash, `u` or `U` and digits
pub data Part : Type 0 where
  raw : (character : ℕ) → Part
  named : (letter : ℕ) → Part
  numbered : (mark : ℕ) → (digits : List ℕ) → Part

-- whether a character may stand for itself: in a literal all but the quote, the backslash, LF and CR
abbrev pub is_raw : Coding → ℕ → Bool
is_raw Iri character = is_iri_character character
is_raw Literal character = not (character == quote || character == backslash || character == line_feed || character == carriage_return)

-- whether a letter stands for a character after a backslash, and for which
abbrev pub is_name : ℕ → Bool
is_name letter = list_any (nat_eq letter) (codes "tbnrf\"'\\")

abbrev pub named_character : ℕ → ℕ
named_character letter =
    if letter == 0x74 then 0x09 else if letter == 0x62 then 0x08 else if letter == 0x6E then 0x0A
    else if letter == 0x72 then 0x0D else if letter == 0x66 then 0x0C else letter

-- whether digits are hexadecimal, in either case, and the number that they spell
abbrev pub are_hex : List ℕ → Bool
are_hex digits = list_all (λ digit. nat_lt (digit_value digit) 16) digits

abbrev pub hex_from : ℕ → List ℕ → ℕ
hex_from before [] = before
hex_from before (digit ∷ digits) = hex_from (before * 16 + digit_value digit) digits

abbrev pub hex_number : List ℕ → ℕ
hex_number digits = hex_from 0 digits

-- `u` has four digits and `U` has eight
abbrev pub has_digits : ℕ → ℕ → Bool
has_digits mark count = (mark == 0x75 && count == 4) || (mark == 0x55 && count == 8)

-- a part that may stand in a text: digits name a Unicode scalar value, and letters stand after a backslash in literals alone
abbrev pub IsPart : Coding → Part → Type 0
IsPart coding (raw character) = IsScalar character × IsTrue (is_raw coding character)
IsPart Iri (named letter) = ⊥
IsPart Literal (named letter) = IsTrue (is_name letter)
IsPart coding (numbered mark digits) = IsTrue (has_digits mark (length digits)) × IsTrue (are_hex digits) × IsScalar (hex_number digits)

-- how a part is spelled, and the character that it stands for, in UTF-8
abbrev pub part_spelling : Part → List ℕ
part_spelling (raw character) = encode_utf8 character
part_spelling (named letter) = backslash ∷ letter ∷ []
part_spelling (numbered mark digits) = backslash ∷ mark ∷ digits

abbrev pub part_text : Part → List ℕ
part_text (raw character) = encode_utf8 character
part_text (named letter) = encode_utf8 (named_character letter)
part_text (numbered mark digits) = encode_utf8 (hex_number digits)

-- A text is spelled part by part.
pub record Spells (coding : Coding) (spelled text : List ℕ) : Type 0 where
  pub parts : List Part
  pub each : AllByRecursion (IsPart coding) parts
  pub spelling : spelled ≡ flat_map part_spelling parts
  pub characters : text ≡ flat_map part_text parts
