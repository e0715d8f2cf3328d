-- The texts of an identifier, which are those of a UUID in hyphenated form (RFC 9562, section 4).
use Rattle.std.specs.Prelude.{ℕ, ◌-◌, List, ◌++◌, Bool, Option, None, if◌then◌else◌, length, take, drop, option_map, codes, bytes_eq, nat_eq, ◌||◌}
use Rattle.std.specs.Int.{from_be_bytes, to_be_bytes, w128}
use Rattle.std.specs.List.{ends_with, list_any}
use Rattle.uuid.specs.Text.{hyphenated_text, parsed_hyphenated, lower}

-- The number that a plain identifier spells: 8, 4, 4, 4 and 12 hexadecimal digits in either case, with `-` between.
unfoldable pub plain_number : List ℕ → Option ℕ
plain_number text = option_map (from_be_bytes w128) (parsed_hyphenated text)

-- Whether these bytes may stand before the plain identifier of an IRI: they are `urn:uuid:`, or they end in `#_`.
abbrev pub is_iri_head : List ℕ → Bool
is_iri_head head = bytes_eq head (codes "urn:uuid:") || ends_with nat_eq head (codes "#_")

-- The number that an IRI spells, by its last 36 bytes and what stands before them.
unfoldable pub iri_number : List ℕ → Option ℕ
iri_number text =
    let split = length text - 36 in
    if is_iri_head (take split text) then plain_number (drop split text) else None

-- The plain identifier of a number, in lower case.
unfoldable pub id_text : ℕ → List ℕ
id_text number = hyphenated_text lower (to_be_bytes w128 number)

-- The IRI of a number, `urn:uuid:` and its plain identifier (RFC 9562, section 4).
unfoldable pub id_iri : ℕ → List ℕ
id_iri number = codes "urn:uuid:" ++ id_text number

-- Whether a byte is a digit, a letter from a to f, or `-`.
abbrev pub is_id_character : ℕ → Bool
is_id_character byte = list_any (nat_eq byte) (codes "0123456789abcdef-")
