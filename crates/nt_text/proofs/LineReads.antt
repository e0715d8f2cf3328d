-- What is told of a line, and why it is no triple.
use Rattle.std.proofs.Common.{◌≡◌, ℕ, ◌<◌, List, Bool, true, false, ◌↔◌, IsTrue, length, IfSome, Result, Ok, Err, MatchResult, Bor, inl, inr}
use Rattle.std.specs.Result.{is_err}
use Rattle.std.specs.Str.{IsUtf8}
use Rattle.cim_words.specs.declared.object.Object.{Object}
use Rattle.cim_words.specs.Written.{line_limit, written_line}
use Rattle.cim_words.specs.declared.statement.Statement.{Statement}
use Rattle.nt_text.specs.Ends.{HasObjectToEnd, IsStatementFault}
use Rattle.nt_text.specs.Grammar.{BeginsBlankNode, HasBlankNode, HasIri, IsEmptyLine, IsTriple}
use Rattle.nt_text.specs.Reading.{IsReading, IsText, Says, told}
use Rattle.nt_text.specs.declared.refusal.LineFault.{LineFault}
use Rattle.nt_text.specs.declared.refusal.LineFault.TheVariants as fault
use Rattle.nt_text.specs.declared.refusal.LineRefusal.TheVariants as why

-- bytes that are read as a text are UTF-8
pub is_utf8_text : {E : Type 0} (bytes : List ℕ) (r : Result (Bor (List ℕ)) E) (P : E → Type 0) → MatchResult r (λ s. (s.now ≡ bytes) × IsUtf8 bytes) P → false ≡ is_err r → IsUtf8 bytes
is_utf8_text bytes (Ok s) P read some = read.1
is_utf8_text bytes (Err e) P read some = absurd cc

-- a statement whose written line is too long
pub wide_is : (line : List ℕ) (s : Statement) (wide : Bool) → (IsTrue wide ↔ (line_limit < length (written_line s))) → wide ≡ true → Says line s
    → (x : Statement) × Says line x × (line_limit < length (written_line x))
wide_is line s wide test is says = (s, says, test.0 is)

-- why no statement is read is what the line reads as
pub fault_reads : (line : List ℕ) (e : LineFault) → IsText line → (IsEmptyLine line → ⊥) → IsStatementFault line e → IfSome (told (Err e)) (IsReading line)
fault_reads line fault.NoMemory text some cause = tt
fault_reads line (fault.Refusal why.LineTooLong) text some cause = absurd cause
fault_reads line (fault.Refusal why.Utf8) text some cause = absurd cause
fault_reads line (fault.Refusal why.Blank) text some cause = (text, cause)
fault_reads line (fault.Refusal why.Syntax) text some cause = (text, record { no_blank_node = cause.0; not_empty = some; no_triple = cause.1 })
fault_reads line (fault.Refusal why.Subject) text some cause = (text, cause)
fault_reads line (fault.Refusal why.Wide) text some cause = (text, cause)

-- ---- why a line is no triple

-- what does not stand after two IRIs
abbrev pub NoObject : List ℕ → Type 0
NoObject bytes = (BeginsBlankNode bytes → ⊥) × ((thing : Object) → HasObjectToEnd bytes thing → ⊥)

abbrev pub NoTriple : List ℕ → Type 0
NoTriple line = (HasBlankNode line → ⊥) × ((subject property : List ℕ) (thing : Object) → IsTriple line subject property thing → ⊥)

pub no_triple : (line : List ℕ) → (BeginsBlankNode line → ⊥) → ((t r u s : List ℕ) → HasIri line t r → HasIri r u s → NoObject s) → NoTriple line
no_triple line no_blank none = (blank, triple)
  where
    blank : HasBlankNode line → ⊥
    blank (inl node) = no_blank node
    blank (inr node) = (none node.subject node.after_subject node.property node.after_property node.has_subject node.has_property).0 node.begins

    triple : (subject property : List ℕ) (thing : Object) → IsTriple line subject property thing → ⊥
    triple subject property thing is =
        (none subject is.after_subject property is.after_property is.has_subject is.has_property).1 thing
        (record { rest = is.after_object; has = is.has_object; ends = is.ends })

-- a test that fails denies its fact
pub denied : (P : Type 0) → (IsTrue false ↔ P) → P → ⊥
denied P test holds = let no : false ≡ true = test.1 holds in cc
