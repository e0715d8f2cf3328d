-- What the texts of identifiers spell, and that what is written is read.
use Rattle.std.proofs.Common.{◌≡◌, ◌≢◌, ℕ, zero, suc, [], inl, ◌-◌, ◌<◌, ◌^◌, List, Option, Some, None, true, false, Bool, IsTrue, if◌then◌else◌, ◌==◌, All, length, get_or, take, drop, option_map, arith, refl, sym, ap, ◌∙◌}
use Rattle.std.specs.Prelude.{codes}
use Rattle.std.specs.List.{AllPass, list_all}
use Rattle.std.proofs.lemmas.List.Sums.{list_all-from_AllPass}
use Rattle.std.proofs.lemmas.List.{get_or_default}
use Rattle.std.proofs.lemmas.Bool.Decides.{nat_tests}
use Rattle.std.specs.Int.{byte_at, bytes_high_first, from_be_bytes, to_be_bytes, w128}
use Rattle.uuid.specs.Text.{hyphenated_text, parsed_hyphenated, parsed, lower, hex_digit, nibble, digit_place, is_hyphen_place}
use Rattle.uuid.proofs.RoundTrips.{parses_hyphenated_text}
use Rattle.uuid.proofs.OrderLemmas.{from_be_bytes-to_be_bytes_16}
use Rattle.uuid.proofs.TextLemmas.{by_index_length, by_index_at, nibble_small}
use Rattle.cim_words.specs.Written.{is_iri_character}
use Rattle.cim_words.specs.IdText.{plain_number, iri_number, id_text, id_iri, is_iri_head, is_id_character}

-- what a text of another length spells
pub plain_number-other_length : (text : List ℕ) → length text ≢ 36 → plain_number text ≡ None
unfolding plain_number
plain_number-other_length text other =
    let fails : (length text == 36) ≡ false = grind (arith, nat_tests) in
    rw fails refl

-- what a text spells that UUIDs are read from
pub plain_number-parsed : (text bytes : List ℕ) → length text ≡ 36 → Some bytes ≡ parsed text → plain_number text ≡ Some (from_be_bytes w128 bytes)
unfolding plain_number
plain_number-parsed text bytes len read =
    let same : parsed text ≡ parsed_hyphenated text = rw len refl in
    ap (option_map (from_be_bytes w128)) (sym (read ∙ same))

no_value : {X : Type 0} (o : Option X) → ((x : X) → o ≡ Some x → ⊥) → o ≡ None
no_value None none = refl
no_value (Some x) none = absurd (none x refl)

-- what a text spells that no UUID is read from
pub plain_number-unparsed : (text : List ℕ) → length text ≡ 36 → ((bytes : List ℕ) → parsed text ≡ Some bytes → ⊥) → plain_number text ≡ None
unfolding plain_number
plain_number-unparsed text len none =
    let same : parsed text ≡ parsed_hyphenated text = rw len refl in
    ap (option_map (from_be_bytes w128)) (sym same ∙ no_value (parsed text) none)

-- what an IRI spells, by what stands before its last 36 bytes
pub iri_number-headed : (text head plain : List ℕ) → head ≡ take (length text - 36) text → plain ≡ drop (length text - 36) text
    → is_iri_head head ≡ true → iri_number text ≡ plain_number plain
unfolding iri_number
iri_number-headed text head plain front back headed =
    let is_so : is_iri_head (take (length text - 36) text) ≡ true = rw (← front) headed in
    rw (is_so, back) refl

pub iri_number-not_headed : (text head : List ℕ) → head ≡ take (length text - 36) text → is_iri_head head ≡ false → iri_number text ≡ None
unfolding iri_number
iri_number-not_headed text head front not_headed =
    let is_so : is_iri_head (take (length text - 36) text) ≡ false = rw (← front) not_headed in
    rw is_so refl

-- what an IRI spells that is shorter than a plain identifier
pub iri_number-short : (text : List ℕ) → length text < 36 → iri_number text ≡ None
iri_number-short text short =
    let none : length text - 36 ≡ 0 = omega arith in
    iri_number-not_headed text [] (rw none refl) refl

-- a plain identifier has 36 characters
pub length-id_text : (number : ℕ) → length (id_text number) ≡ 36
unfolding id_text
length-id_text number = by_index_length 36 _

byte_fits : (place number : ℕ) → byte_at place number < 256
byte_fits zero number = omega arith
byte_fits (suc place) number = omega arith

bytes_fit : (count number : ℕ) → All (λ b. b < 256) (bytes_high_first count number)
bytes_fit zero number k d within = absurd (omega arith)
bytes_fit (suc count) number zero d within = byte_fits count number
bytes_fit (suc count) number (suc k) d within = bytes_fit count number k d (omega arith)

-- what is written is the plain identifier
pub id_text-written : (number : ℕ) (bytes : List ℕ) → bytes ≡ to_be_bytes w128 number → hyphenated_text lower bytes ≡ id_text number
unfolding id_text
id_text-written number bytes same = ap (hyphenated_text lower) same

-- what is written as a plain identifier is read
pub plain_number-id_text : (number : ℕ) → number < 2 ^ 128 → plain_number (id_text number) ≡ Some number
unfolding plain_number id_text
plain_number-id_text number fits =
    ap (option_map (from_be_bytes w128)) (sym (parses_hyphenated_text lower (to_be_bytes w128 number) (inl refl) refl (bytes_fit 16 number)))
    ∙ ap Some (from_be_bytes-to_be_bytes_16 number fits)

-- an IRI of an identifier has 45 characters
pub length-id_iri : (number : ℕ) → length (id_iri number) ≡ 45
unfolding id_iri
length-id_iri number = omega (arith, length-id_text number)

-- what is written as an IRI is read
pub iri_number-id_iri : (number : ℕ) → number < 2 ^ 128 → iri_number (id_iri number) ≡ Some number
unfolding id_iri
iri_number-id_iri number fits =
    let split : length (id_iri number) - 36 ≡ 9 = omega (arith, length-id_iri number) in
    iri_number-headed (id_iri number) (codes "urn:uuid:") (id_text number) (rw split refl) (rw split refl) refl
    ∙ plain_number-id_text number fits

id_character : (hyphen_here : Bool) (digit : ℕ) → digit < 16 → IsTrue (is_id_character (if hyphen_here then 45 else hex_digit lower digit))
id_character true digit small = refl
id_character false digit small = grind (arith, nat_tests)

-- each byte of a plain identifier is a digit, a letter from a to f or a hyphen
pub is_id_character-id_text : (number i : ℕ) → i < 36 → IsTrue (is_id_character (get_or (id_text number) i 0))
unfolding id_text
is_id_character-id_text number i within =
    let bytes = to_be_bytes w128 number in
    let here = by_index_at 36 (λ k. if is_hyphen_place k then 45 else hex_digit lower (nibble bytes (digit_place k))) i 0 within in
    ap is_id_character here ∙ id_character (is_hyphen_place i) (nibble bytes (digit_place i)) (nibble_small bytes (digit_place i))

-- every byte of a plain identifier is one of these
pub id_text-characters : (number : ℕ) → AllPass is_id_character (id_text number)
id_text-characters number i d within =
    let place : i < 36 = omega (arith, length-id_text number) in
    rw (get_or_default (id_text number) i d 0 within) (is_id_character-id_text number i place)

-- each byte of a plain identifier may stand in an IRI as it is
pub is_iri_character-id : (byte : ℕ) → IsTrue (is_id_character byte) → IsTrue (is_iri_character byte)
unfolding is_iri_character
is_iri_character-id byte is_id = grind (arith, nat_tests)

-- no byte of the IRI of an identifier has to be escaped
pub id_iri-characters : (number : ℕ) → list_all is_iri_character (id_iri number) ≡ true
unfolding id_iri is_iri_character
id_iri-characters number =
    list_all-from_AllPass is_iri_character (id_text number) (λ i d within. is_iri_character-id (get_or (id_text number) i d) (id_text-characters number i d within))
