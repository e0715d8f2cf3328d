-- What a line says, or why it is refused (RDF 1.1 N-Triples; the limits and the order of refusals are this project's).
use Rattle.std.specs.Prelude.{ℕ, ◌≡◌, ◌<◌, ◌≤◌, List, length, Option, Some, None, Result, Ok, Err}
use Rattle.std.specs.Str.{IsUtf8}
use Rattle.cim_words.specs.IdText.{iri_number}
use Rattle.cim_words.specs.Prop.{prop_of}
use Rattle.cim_words.specs.Written.{line_limit, written_line}
use Rattle.cim_words.specs.declared.object.Object.{Object}
use Rattle.cim_words.specs.declared.statement.Statement.{Statement}
use Rattle.nt_text.specs.Grammar.{IsTriple, IsEmptyLine, HasBlankNode}
use Rattle.nt_text.specs.declared.refusal.LineFault.{LineFault}
use Rattle.nt_text.specs.declared.refusal.LineFault.TheVariants as fault
use Rattle.nt_text.specs.declared.refusal.LineRefusal.{LineRefusal}
use Rattle.nt_text.specs.declared.refusal.LineRefusal.TheVariants as why

-- a line says nothing, or holds a statement, or is refused
pub data Reading : Type 0 where
  nothing : Reading
  holds : Statement → Reading
  refused : LineRefusal → Reading

-- a line within the limit that is UTF-8
pub record IsText (line : List ℕ) : Type 0 where
  pub fits : length line ≤ line_limit
  pub utf8 : IsUtf8 line

-- The line is a triple that says this statement: its subject spells the identifier, its property is the second IRI's text.
pub record Says (line : List ℕ) (s : Statement) : Type 0 where
  pub subject : List ℕ
  pub property : List ℕ
  pub triple : IsTriple line subject property s.object
  pub spells_subject : iri_number subject ≡ Some s.subject.number
  pub names_property : s.prop ≡ prop_of property

-- the line is a triple whose subject spells no identifier
pub record SaysOfNone (line : List ℕ) : Type 0 where
  pub subject : List ℕ
  pub property : List ℕ
  pub thing : Object
  pub triple : IsTriple line subject property thing
  pub no_identifier : iri_number subject ≡ None

-- the line is of none of the forms
pub record IsNoForm (line : List ℕ) : Type 0 where
  pub no_blank_node : HasBlankNode line → ⊥
  pub not_empty : IsEmptyLine line → ⊥
  pub no_triple : (subject property : List ℕ) (thing : Object) → IsTriple line subject property thing → ⊥

-- What a line reads as. A line is refused by the first that holds: it is too long, not UTF-8, has a blank node, is of no form,
-- its subject is no identifier, or the written line of its statement is too long.
abbrev pub IsReading : List ℕ → Reading → Type 0
IsReading line nothing = IsText line × IsEmptyLine line
IsReading line (holds s) = IsText line × Says line s × (length (written_line s) ≤ line_limit)
IsReading line (refused why.LineTooLong) = line_limit < length line
IsReading line (refused why.Utf8) = (length line ≤ line_limit) × (IsUtf8 line → ⊥)
IsReading line (refused why.Blank) = IsText line × HasBlankNode line
IsReading line (refused why.Syntax) = IsText line × IsNoForm line
IsReading line (refused why.Subject) = IsText line × SaysOfNone line
IsReading line (refused why.Wide) = IsText line × ((s : Statement) × Says line s × (line_limit < length (written_line s)))

-- the reading that a result tells, want of memory aside
abbrev pub told : Result (Option Statement) LineFault → Option Reading
told (Ok None) = Some nothing
told (Ok (Some s)) = Some (holds s)
told (Err (fault.Refusal r)) = Some (refused r)
told (Err fault.NoMemory) = None
