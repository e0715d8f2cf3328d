-- The object of a statement: an identifier, another IRI or a literal's characters (RDF 1.1 N-Triples).
use Rattle.std.specs.Prelude.{ℕ, List, Bool, Option, Some, None, is_none, true}
use Rattle.cim_words.specs.IdText.{iri_number}
use Rattle.cim_words.specs.declared.object.Object.{Object}
use Rattle.cim_words.specs.declared.object.Object.TheVariants as object

-- what an IRI names: the identifier that it spells, else its text
abbrev pub id_or_name : Option ℕ → List ℕ → Object
id_or_name (Some n) text = object.Id (record { number = n })
id_or_name None text = object.Name text

abbrev pub object_of : List ℕ → Object
object_of text = id_or_name (iri_number text) text

-- an object is proper where no name spells an identifier
abbrev pub is_proper_object : Object → Bool
is_proper_object (object.Id id) = true
is_proper_object (object.Name text) = is_none (iri_number text)
is_proper_object (object.Text text) = true
