-- The forms of a line (RDF 1.1 N-Triples, sections 2 and 7). Where spaces and tabs may stand is this project's rule.
use Rattle.std.specs.Prelude.{ℕ, ◌≡◌, ◌⊎◌, ◌<◌, List, [], ◌++◌, length, Bool, ◌==◌, ◌||◌, ◌&&◌, nat_le, codes}
use Rattle.std.specs.List.{flat_map, AllPass, AllByRecursion}
use Rattle.cim_words.specs.Object.{object_of}
use Rattle.cim_words.specs.declared.object.Object.{Object}
use Rattle.cim_words.specs.declared.object.Object.TheVariants as object
use Rattle.nt_text.specs.Parts.{Spells}
use Rattle.nt_text.specs.declared.spelling.Coding.TheVariants.{Iri, Literal}

-- a gap: spaces and tabs, or nothing
abbrev pub is_blank : ℕ → Bool
is_blank byte = byte == 0x20 || byte == 0x09

abbrev pub IsGap : List ℕ → Type 0
IsGap bytes = AllPass is_blank bytes

-- after a gap an IRI with this text, in angle brackets, and then the rest
pub record HasIri (bytes text rest : List ℕ) : Type 0 where
  pub gap : List ℕ
  pub inside : List ℕ
  pub blank : IsGap gap
  pub spells : Spells Iri inside text
  pub layout : bytes ≡ gap ++ (codes "<" ++ (inside ++ (codes ">" ++ rest)))

-- after a gap the characters of a literal with this text, in quotes, and then the rest
pub record HasCharacters (bytes text rest : List ℕ) : Type 0 where
  pub gap : List ℕ
  pub inside : List ℕ
  pub blank : IsGap gap
  pub spells : Spells Literal inside text
  pub layout : bytes ≡ gap ++ (codes "\"" ++ (inside ++ (codes "\"" ++ rest)))

-- letters, and letters or digits
abbrev pub is_letter : ℕ → Bool
is_letter byte = (nat_le 0x41 byte && nat_le byte 0x5A) || (nat_le 0x61 byte && nat_le byte 0x7A)

abbrev pub is_letter_or_digit : ℕ → Bool
is_letter_or_digit byte = is_letter byte || (nat_le 0x30 byte && nat_le byte 0x39)

-- one or more letters or digits
abbrev pub IsSubtag : List ℕ → Type 0
IsSubtag bytes = (0 < length bytes) × AllPass is_letter_or_digit bytes

-- a language tag: one or more letters, and then any number of subtags with a hyphen before each
pub record IsLanguage (bytes : List ℕ) : Type 0 where
  pub letters : List ℕ
  pub subtags : List (List ℕ)
  pub some : 0 < length letters
  pub lettered : AllPass is_letter letters
  pub each : AllByRecursion IsSubtag subtags
  pub layout : bytes ≡ letters ++ flat_map (λ subtag. codes "-" ++ subtag) subtags

-- after a gap `^^` and an IRI, the datatype, and then the rest
pub record HasDatatype (bytes rest : List ℕ) : Type 0 where
  pub gap : List ℕ
  pub behind : List ℕ
  pub text : List ℕ
  pub blank : IsGap gap
  pub layout : bytes ≡ gap ++ (codes "^^" ++ behind)
  pub iri : HasIri behind text rest

-- after a gap `@` and a language tag, and then the rest
pub record HasLanguage (bytes rest : List ℕ) : Type 0 where
  pub gap : List ℕ
  pub tag : List ℕ
  pub blank : IsGap gap
  pub language : IsLanguage tag
  pub layout : bytes ≡ gap ++ (codes "@" ++ (tag ++ rest))

-- what may stand after a literal's characters, and then the rest
abbrev pub HasKind : List ℕ → List ℕ → Type 0
HasKind bytes rest = (bytes ≡ rest) ⊎ (HasDatatype bytes rest ⊎ HasLanguage bytes rest)

-- an IRI as an object: the identifier that it spells, else a name
pub record HasNamed (bytes : List ℕ) (thing : Object) (rest : List ℕ) : Type 0 where
  pub text : List ℕ
  pub iri : HasIri bytes text rest
  pub names : thing ≡ object_of text

-- a literal as an object: its characters. Datatype and language tag are dropped.
pub record HasLiteral (bytes : List ℕ) (thing : Object) (rest : List ℕ) : Type 0 where
  pub text : List ℕ
  pub behind : List ℕ
  pub characters : HasCharacters bytes text behind
  pub kind : HasKind behind rest
  pub names : thing ≡ object.Text text

abbrev pub HasObject : List ℕ → Object → List ℕ → Type 0
HasObject bytes thing rest = HasNamed bytes thing rest ⊎ HasLiteral bytes thing rest

-- nothing, or a comment: `#` and whatever follows
abbrev pub IsComment : List ℕ → Type 0
IsComment bytes = (bytes ≡ []) ⊎ ((text : List ℕ) × (bytes ≡ codes "#" ++ text))

-- a line that says nothing: a gap, and at most a comment
pub record IsEmptyLine (bytes : List ℕ) : Type 0 where
  pub gap : List ℕ
  pub comment : List ℕ
  pub blank : IsGap gap
  pub ends : IsComment comment
  pub layout : bytes ≡ gap ++ comment

-- the end of a triple: a gap, a point, a gap, and at most a comment
pub record IsEnd (bytes : List ℕ) : Type 0 where
  pub gap : List ℕ
  pub after : List ℕ
  pub blank : IsGap gap
  pub nothing : IsEmptyLine after
  pub layout : bytes ≡ gap ++ (codes "." ++ after)

-- the line is a triple of these two IRIs and this object
pub record IsTriple (line subject property : List ℕ) (thing : Object) : Type 0 where
  pub after_subject : List ℕ
  pub after_property : List ℕ
  pub after_object : List ℕ
  pub has_subject : HasIri line subject after_subject
  pub has_property : HasIri after_subject property after_property
  pub has_object : HasObject after_property thing after_object
  pub ends : IsEnd after_object

-- after a gap a blank node begins
pub record BeginsBlankNode (bytes : List ℕ) : Type 0 where
  pub gap : List ℕ
  pub after : List ℕ
  pub blank : IsGap gap
  pub layout : bytes ≡ gap ++ (codes "_:" ++ after)

-- two IRIs, and then a blank node begins
pub record HasBlankObject (line : List ℕ) : Type 0 where
  pub subject : List ℕ
  pub property : List ℕ
  pub after_subject : List ℕ
  pub after_property : List ℕ
  pub has_subject : HasIri line subject after_subject
  pub has_property : HasIri after_subject property after_property
  pub begins : BeginsBlankNode after_property

-- a blank node stands as subject or as object
abbrev pub HasBlankNode : List ℕ → Type 0
HasBlankNode line = BeginsBlankNode line ⊎ HasBlankObject line
