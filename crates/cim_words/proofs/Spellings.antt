-- What an identifier and a line look like once they are spelled.
use Rattle.std.proofs.Common.{◌≡◌, ℕ, ◌<◌, List, true, IsTrue, refl, arith, codes, rules}
use Rattle.std.specs.List.{flat_map, list_all}
use Rattle.std.specs.Str.{IsUtf8, IsAscii}
use Rattle.std.proofs.lemmas.Str.Ascii.{IsAscii-from_all, IsAscii-cons, IsAscii-nil}
use Rattle.std.proofs.lemmas.Str.{IsUtf8-append, IsUtf8-from_ascii}
use Rattle.std.proofs.lemmas.Bool.Decides.{nat_tests}
use Rattle.plain_laws.proofs.Filters.{flat_map_itself}
use Rattle.cim_words.specs.IdText.{id_iri, id_text, is_id_character}
use Rattle.cim_words.specs.Written.{is_iri_character, iri_spelling}
use Rattle.cim_words.proofs.IdTexts.{id_iri-characters, id_text-characters}

-- what may stand in an IRI is spelled as it is
plain_spelling : (text : List ℕ) → list_all is_iri_character text ≡ true → flat_map iri_spelling text ≡ text
unfolding iri_spelling
plain_spelling text all = flat_map_itself is_iri_character iri_spelling (λ byte is. rw is refl) text all

-- the IRI of an identifier is spelled as it is
pub iri_spelling-id_iri : (n : ℕ) → flat_map iri_spelling (id_iri n) ≡ id_iri n
iri_spelling-id_iri n = plain_spelling (id_iri n) (id_iri-characters n)

-- each byte of a plain identifier is ASCII
id_byte : (byte : ℕ) → IsTrue (is_id_character byte) → byte < 128
id_byte byte is = grind (arith, nat_tests)

-- and so is what stands before it
prefix : IsAscii (codes "urn:uuid:")
prefix = search (rules, IsAscii-cons, IsAscii-nil) depth 15

-- the IRI of an identifier is ASCII, and so it is text
pub IsUtf8-id_iri : (n : ℕ) → IsUtf8 (id_iri n)
unfolding id_iri
IsUtf8-id_iri n = IsUtf8-append (codes "urn:uuid:") (id_text n) (IsUtf8-from_ascii (codes "urn:uuid:") prefix) (IsUtf8-from_ascii (id_text n) (IsAscii-from_all (id_text n) (λ i d within. id_byte _ (id_text-characters n i d within))))
