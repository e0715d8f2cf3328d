-- The written form of a statement: the one line of N-Triples (RDF 1.1 N-Triples, section 2) that this project writes for it.
use Rattle.std.specs.Prelude.{ℕ, ◌/◌, ◌%◌, List, [], ◌∷◌, ◌++◌, Bool, if◌then◌else◌, ◌==◌, ◌&&◌, not, nat_lt, nat_eq, codes, slice_index}
use Rattle.std.specs.List.{flat_map, list_any}
use Rattle.cim_words.specs.IdText.{id_iri}
use Rattle.cim_words.specs.Prop.{prop_iri}
use Rattle.cim_words.specs.declared.object.Object.{Object}
use Rattle.cim_words.specs.declared.object.Object.TheVariants as object
use Rattle.cim_words.specs.declared.statement.Statement.{Statement}

-- the characters that have a meaning of their own: line feed, carriage return, quote and backslash
abbrev pub line_feed : ℕ
line_feed = 0x0A

abbrev pub carriage_return : ℕ
carriage_return = 0x0D

abbrev pub quote : ℕ
quote = 0x22

abbrev pub backslash : ℕ
backslash = 0x5C

-- Whether a byte may stand in an IRI as it is: it is no control character, no space and none of these.
unfoldable pub is_iri_character : ℕ → Bool
is_iri_character byte = nat_lt 32 byte && not (list_any (nat_eq byte) (codes "<>\"{}|^`\\"))

-- an upper-case hexadecimal digit
abbrev pub hex_digit : ℕ → ℕ
hex_digit d = slice_index (codes "0123456789ABCDEF") d

-- a byte of an IRI: one that can't stand there as `\u` and four digits
unfoldable pub iri_spelling : ℕ → List ℕ
iri_spelling b = if is_iri_character b then b ∷ [] else backslash ∷ codes "u00" ++ hex_digit (b / 16) ∷ hex_digit (b % 16) ∷ []

-- a byte of a literal: the quote, the backslash, LF and CR after a backslash
unfoldable pub literal_spelling : ℕ → List ℕ
literal_spelling b =
    if b == quote then backslash ∷ quote ∷ []
    else if b == backslash then backslash ∷ backslash ∷ []
    else if b == line_feed then backslash ∷ codes "n"
    else if b == carriage_return then backslash ∷ codes "r"
    else b ∷ []

-- an IRI, and a literal without datatype
abbrev pub written_iri : List ℕ → List ℕ
written_iri text = codes "<" ++ flat_map iri_spelling text ++ codes ">"

abbrev pub written_literal : List ℕ → List ℕ
written_literal text = quote ∷ flat_map literal_spelling text ++ quote ∷ []

abbrev pub written_id : ℕ → List ℕ
written_id number = codes "<" ++ id_iri number ++ codes ">"

abbrev pub written_object : Object → List ℕ
written_object (object.Id id) = written_id id.number
written_object (object.Name text) = written_iri text
written_object (object.Text text) = written_literal text

-- the line of a statement, without its end
unfoldable pub written_line : Statement → List ℕ
written_line s = written_id s.subject.number ++ codes " " ++ written_iri (prop_iri s.prop) ++ codes " " ++ written_object s.object ++ codes " ."

-- the written form of a statement
abbrev pub written : Statement → List ℕ
written s = written_line s ++ line_feed ∷ []

-- the most bytes that a line may have without its end, and so may the written line of a statement
abbrev pub line_limit : ℕ
line_limit = 8192
