-- The two spellings of a text: in an IRI and in a literal.
use Rattle.std.specs.Prelude.{ℕ, List, ◌++◌, codes}
use Rattle.cim_words.specs.Written.{iri_spelling, literal_spelling}
use Rattle.nt_text.specs.declared.spelling.Coding.{Coding}
use Rattle.nt_text.specs.declared.spelling.Coding.TheVariants.{Iri, Literal}

-- how a byte is spelled
abbrev pub spelling_of : Coding → ℕ → List ℕ
spelling_of Iri = iri_spelling
spelling_of Literal = literal_spelling

-- what ends an IRI
abbrev pub closing : ℕ
closing = 0x3E

-- an IRI at the front, as it is spelled inside, and what follows it and a space
abbrev pub behind_iri : List ℕ → List ℕ → List ℕ
behind_iri inside rest = codes "<" ++ (inside ++ (codes "> " ++ rest))

-- a triple, of a spelled subject and property and an object
abbrev pub triple : List ℕ → List ℕ → List ℕ → List ℕ
triple subject prop object = behind_iri subject (behind_iri prop (object ++ codes " ."))
