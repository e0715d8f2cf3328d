-- What may stand after a literal's characters, up to the end of the triple.
use Rattle.std.specs.Prelude.{ℕ, ◌≡◌, ◌<◌, length, List, [], ◌∷◌, ◌++◌, Bool, true, not, ◌||◌, ◌==◌, codes}
use Rattle.std.specs.List.{flat_map, AllByRecursion}
use Rattle.cim_words.specs.Written.{line_limit, written_line}
use Rattle.cim_words.specs.declared.object.Object.{Object}
use Rattle.cim_words.specs.declared.object.Object.TheVariants as object
use Rattle.cim_words.specs.declared.statement.Statement.{Statement}
use Rattle.nt_text.specs.Grammar.{is_letter_or_digit, IsSubtag, IsLanguage, HasIri, HasCharacters, HasKind, HasObject, IsEnd, IsTriple, HasBlankNode}
use Rattle.nt_text.specs.Reading.{Says, SaysOfNone}
use Rattle.nt_text.specs.declared.refusal.LineFault.{LineFault}
use Rattle.nt_text.specs.declared.refusal.LineFault.TheVariants as fault
use Rattle.nt_text.specs.declared.refusal.LineRefusal.TheVariants as why

-- an IRI, and then the end of the triple
pub record HasIriEnd (bytes : List ℕ) : Type 0 where
  pub text : List ℕ
  pub rest : List ℕ
  pub iri : HasIri bytes text rest
  pub ends : IsEnd rest

-- subtags with a hyphen before each, and then the rest
pub record HasSubtags (bytes rest : List ℕ) : Type 0 where
  pub subtags : List (List ℕ)
  pub each : AllByRecursion IsSubtag subtags
  pub layout : bytes ≡ flat_map (λ subtag. codes "-" ++ subtag) subtags ++ rest

-- a language tag, and then the rest
pub record HasTag (bytes rest : List ℕ) : Type 0 where
  pub tag : List ℕ
  pub language : IsLanguage tag
  pub layout : bytes ≡ tag ++ rest

-- a language tag, and then the end of the triple
pub record HasTagEnd (bytes : List ℕ) : Type 0 where
  pub rest : List ℕ
  pub has : HasTag bytes rest
  pub ends : IsEnd rest

-- a datatype, a language tag or nothing, and then the end of the triple
pub record HasLiteralEnd (bytes : List ℕ) : Type 0 where
  pub rest : List ℕ
  pub kind : HasKind bytes rest
  pub ends : IsEnd rest

-- whether no language tag goes on into these bytes
abbrev pub stops_tag : List ℕ → Bool
stops_tag [] = true
stops_tag (byte ∷ bytes) = not (is_letter_or_digit byte || byte == 0x2D)

-- a literal's characters, and then the end of the triple
pub record HasLiteralToEnd (bytes : List ℕ) : Type 0 where
  pub text : List ℕ
  pub behind : List ℕ
  pub characters : HasCharacters bytes text behind
  pub ends : HasLiteralEnd behind

-- an object, and then the end of the triple
pub record HasObjectToEnd (bytes : List ℕ) (thing : Object) : Type 0 where
  pub rest : List ℕ
  pub has : HasObject bytes thing rest
  pub ends : IsEnd rest

-- why no triple is read from a line: a blank node, or none of the forms of a triple
abbrev pub IsTripleFault : List ℕ → LineFault → Type 0
IsTripleFault line fault.NoMemory = Unit {0}
IsTripleFault line (fault.Refusal why.Blank) = HasBlankNode line
IsTripleFault line (fault.Refusal why.Syntax) = (HasBlankNode line → ⊥) × ((subject property : List ℕ) (thing : Object) → IsTriple line subject property thing → ⊥)
IsTripleFault line (fault.Refusal other) = ⊥

-- why a line says no statement: it is no triple, or its subject is no identifier
abbrev pub IsSayingFault : List ℕ → LineFault → Type 0
IsSayingFault line (fault.Refusal why.Subject) = SaysOfNone line
IsSayingFault line other = IsTripleFault line other

-- why no statement is read from a line: it says none, or one whose written line is too long
abbrev pub IsStatementFault : List ℕ → LineFault → Type 0
IsStatementFault line (fault.Refusal why.Wide) = (s : Statement) × Says line s × (line_limit < length (written_line s))
IsStatementFault line other = IsSayingFault line other

-- how many bytes the text of an object has
abbrev pub text_length : Object → ℕ
text_length (object.Id id) = 0
text_length (object.Name text) = length text
text_length (object.Text text) = length text
