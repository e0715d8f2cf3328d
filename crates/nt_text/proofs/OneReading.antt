-- A line reads in one way.
use Rattle.std.proofs.Common.{◌≡◌, ◌≢◌, ℕ, ◌<◌, ◌≤◌, List, ◌∷◌, ◌++◌, inl, inr, ⊎_elim, Option, IfSome, true, false, ◌==◌, Some, None, length, refl, sym, ap, ◌∙◌, arith, subst}
use Rattle.std.proofs.lemmas.Bool.{cases_lt}
use Rattle.std.proofs.lemmas.Option.{same_Some}
use Rattle.cim_words.specs.IdText.{iri_number}
use Rattle.cim_words.specs.Object.{object_of}
use Rattle.cim_words.specs.Prop.{prop_of}
use Rattle.cim_words.specs.Written.{quote, written_line}
use Rattle.cim_words.specs.declared.object.Object.{Object}
use Rattle.cim_words.specs.declared.object.Object.TheVariants as object
use Rattle.cim_words.specs.declared.statement.Statement.{Statement}
use Rattle.cim_words.proofs.Statements.{same_statement}
use Rattle.nt_text.specs.Ends.{IsSayingFault}
use Rattle.nt_text.specs.Grammar.{is_blank, HasIri, HasCharacters, HasObject, IsTriple, IsEmptyLine, BeginsBlankNode, HasBlankNode}
use Rattle.nt_text.specs.Parts.{Spells}
use Rattle.nt_text.specs.Quotes.{closing_at}
use Rattle.nt_text.specs.Reading.{Reading, nothing, holds, refused, IsReading, Says, SaysOfNone}
use Rattle.nt_text.specs.Run.{behind_run, begins_no_term}
use Rattle.nt_text.specs.Spelling.{closing}
use Rattle.nt_text.specs.declared.refusal.LineFault.TheVariants as fault
use Rattle.nt_text.specs.declared.refusal.LineRefusal.{LineRefusal}
use Rattle.nt_text.specs.declared.refusal.LineRefusal.TheVariants as why
use Rattle.nt_text.specs.declared.spelling.Coding.TheVariants.{Iri, Literal}
use Rattle.nt_text.proofs.Cuts.{one_cut}
use Rattle.nt_text.proofs.Insides.{iri_free, literal_closes}
use Rattle.nt_text.proofs.LiteralEnds.{other_byte, iri_no_literal}
use Rattle.nt_text.proofs.OneText.{one_text}
use Rattle.nt_text.proofs.Runs.{empty_line_begins, blank_node_begins}
use Rattle.nt_text.proofs.TermForms.{iri_begins, literal_begins, one_literal_cut}

-- an IRI at the front has one text and one rest
pub one_iri : (bytes s t x y : List ℕ) → HasIri bytes s x → HasIri bytes t y → (s ≡ t) × (x ≡ y)
one_iri bytes s t x y a b =
    let lists : 0x3C ∷ (a.inside ++ closing ∷ x) ≡ 0x3C ∷ (b.inside ++ closing ∷ y) = sym (iri_begins bytes s x a) ∙ iri_begins bytes t y b in
    let tails : a.inside ++ closing ∷ x ≡ b.inside ++ closing ∷ y = cc in
    let cut = one_cut closing a.inside b.inside x y (iri_free a.inside s a.spells) (iri_free b.inside t b.spells) tails in
    let P : List ℕ → Type 0 = λ l. Spells Iri l s in
    (one_text Iri b.inside s t (subst P cut.0 a.spells) b.spells, cut.1)

-- and so have the characters of a literal
pub one_literal : (bytes s t x y : List ℕ) → HasCharacters bytes s x → HasCharacters bytes t y → s ≡ t
one_literal bytes s t x y a b =
    let lists : quote ∷ (a.inside ++ quote ∷ x) ≡ quote ∷ (b.inside ++ quote ∷ y) = sym (literal_begins bytes s x a) ∙ literal_begins bytes t y b in
    let tails : a.inside ++ quote ∷ x ≡ b.inside ++ quote ∷ y = cc in
    let cut = one_literal_cut (a.inside ++ quote ∷ x) a.inside b.inside x y refl tails (literal_closes a.inside s x a.spells)
    (ap (closing_at false) tails ∙ literal_closes b.inside t y b.spells) in
    let P : List ℕ → Type 0 = λ l. Spells Literal l s in
    one_text Literal b.inside s t (subst P cut.0 a.spells) b.spells

one_object : (bytes x y : List ℕ) (o p : Object) → HasObject bytes o x → HasObject bytes p y → o ≡ p
one_object bytes x y o p (inl a) (inl b) = a.names ∙ ap object_of (one_iri bytes a.text b.text x y a.iri b.iri).0 ∙ sym b.names
one_object bytes x y o p (inl a) (inr b) = absurd (iri_no_literal bytes a.text x b.text b.behind a.iri b.characters)
one_object bytes x y o p (inr a) (inl b) = absurd (iri_no_literal bytes b.text y a.text a.behind b.iri a.characters)
one_object bytes x y o p (inr a) (inr b) = a.names ∙ ap object.Text (one_literal bytes a.text b.text a.behind b.behind a.characters b.characters) ∙ sym b.names

-- a line is one triple
pub one_triple : (line s p t q : List ℕ) (o r : Object) → IsTriple line s p o → IsTriple line t q r → (s ≡ t) × (p ≡ q) × (o ≡ r)
one_triple line s p t q o r a b =
    let subjects = one_iri line s t a.after_subject b.after_subject a.has_subject b.has_subject in
    let P : List ℕ → Type 0 = λ l. HasIri l q b.after_property in
    let properties = one_iri a.after_subject p q a.after_property b.after_property a.has_property (subst P (sym subjects.1) b.has_property) in
    let Q : List ℕ → Type 0 = λ l. HasObject l r b.after_object in
    (subjects.0, properties.0, one_object a.after_property a.after_object b.after_object o r a.has_object (subst Q (sym properties.1) b.has_object))

-- a line that says nothing begins with no term
empty_no_byte : (line rest : List ℕ) (byte : ℕ) → IsEmptyLine line → behind_run is_blank line ≡ byte ∷ rest → (byte == 0x23) ≡ false → ⊥
empty_no_byte line rest byte empty begins other =
    let no : true ≡ false = sym (empty_line_begins line empty) ∙ ap begins_no_term begins ∙ other in cc

empty_no_triple : (line s p : List ℕ) (o : Object) → IsEmptyLine line → IsTriple line s p o → ⊥
empty_no_triple line s p o empty triple = empty_no_byte line _ 0x3C empty (iri_begins line s triple.after_subject triple.has_subject) refl

empty_no_blank : (line : List ℕ) → IsEmptyLine line → HasBlankNode line → ⊥
empty_no_blank line empty (inl node) = empty_no_byte line _ 0x5F empty (blank_node_begins line node) refl
empty_no_blank line empty (inr node) = empty_no_byte line _ 0x3C empty (iri_begins line node.subject node.after_subject node.has_subject) refl

-- a term is no blank node
iri_no_blank : (bytes text rest : List ℕ) → HasIri bytes text rest → BeginsBlankNode bytes → ⊥
iri_no_blank bytes text rest iri node =
    other_byte (behind_run is_blank bytes) (iri.inside ++ closing ∷ rest) (0x3A ∷ node.after) 0x3C 0x5F refl refl (iri_begins bytes text rest iri) (blank_node_begins bytes node)

literal_no_blank : (bytes text rest : List ℕ) → HasCharacters bytes text rest → BeginsBlankNode bytes → ⊥
literal_no_blank bytes text rest literal node =
    other_byte (behind_run is_blank bytes) (literal.inside ++ quote ∷ rest) (0x3A ∷ node.after) quote 0x5F refl refl (literal_begins bytes text rest literal) (blank_node_begins bytes node)

object_no_blank : (bytes rest : List ℕ) (o : Object) → HasObject bytes o rest → BeginsBlankNode bytes → ⊥
object_no_blank bytes rest o (inl named) node = iri_no_blank bytes named.text rest named.iri node
object_no_blank bytes rest o (inr literal) node = literal_no_blank bytes literal.text literal.behind literal.characters node

blank_no_triple : (line s p : List ℕ) (o : Object) → HasBlankNode line → IsTriple line s p o → ⊥
blank_no_triple line s p o (inl node) triple = iri_no_blank line s triple.after_subject triple.has_subject node
blank_no_triple line s p o (inr node) triple =
    let subjects = one_iri line s node.subject triple.after_subject node.after_subject triple.has_subject node.has_subject in
    let P : List ℕ → Type 0 = λ l. HasIri l node.property node.after_property in
    let properties = one_iri triple.after_subject p node.property triple.after_property node.after_property triple.has_property (subst P (sym subjects.1) node.has_property) in
    let Q : List ℕ → Type 0 = BeginsBlankNode in
    object_no_blank triple.after_property triple.after_object o triple.has_object (subst Q (sym properties.1) node.begins)

-- a line says one statement, or none
pub says_one : (line : List ℕ) (s t : Statement) → Says line s → Says line t → s ≡ t
says_one line s t a b =
    let same = one_triple line a.subject a.property b.subject b.property s.object t.object a.triple b.triple in
    let numbers = same_Some s.subject.number t.subject.number (sym a.spells_subject ∙ ap iri_number same.0 ∙ b.spells_subject) in
    same_statement s t (ap (λ (n : ℕ). record { number = n }) numbers) (a.names_property ∙ ap prop_of same.1 ∙ sym b.names_property) same.2

says_some : (line : List ℕ) (s : Statement) → Says line s → SaysOfNone line → ⊥
says_some line s says none =
    let same = one_triple line says.subject says.property none.subject none.property s.object none.thing says.triple none.triple in
    let no : Some s.subject.number ≡ None = sym says.spells_subject ∙ ap iri_number same.0 ∙ none.no_identifier in cc

-- a line that says a statement is not refused for saying none
pub says_no_fault : (line : List ℕ) (s : Statement) (w : LineRefusal) → Says line s → IsSayingFault line (fault.Refusal w) → ⊥
says_no_fault line s why.Blank says blank = blank_no_triple line says.subject says.property s.object blank says.triple
says_no_fault line s why.Syntax says none = none.1 says.subject says.property s.object says.triple
says_no_fault line s why.Subject says none = says_some line s says none
says_no_fault line s why.LineTooLong says none = none
says_no_fault line s why.Utf8 says none = none
says_no_fault line s why.Wide says none = none

-- the readings in an order in which no two of them hold
abbrev rank : Reading → ℕ
rank (refused why.LineTooLong) = 0
rank (refused why.Utf8) = 1
rank nothing = 2
rank (refused why.Blank) = 3
rank (refused why.Syntax) = 4
rank (refused why.Subject) = 5
rank (holds s) = 6
rank (refused why.Wide) = 7

rank_bound : (b : Reading) → rank b ≤ 7
rank_bound (refused why.LineTooLong) = omega arith
rank_bound (refused why.Utf8) = omega arith
rank_bound nothing = omega arith
rank_bound (refused why.Blank) = omega arith
rank_bound (refused why.Syntax) = omega arith
rank_bound (refused why.Subject) = omega arith
rank_bound (holds s) = omega arith
rank_bound (refused why.Wide) = omega arith

refused_rank : (w : LineRefusal) → (rank (refused w) ≢ 2) × (rank (refused w) ≢ 6)
refused_rank why.LineTooLong = ((λ e. omega arith), (λ e. omega arith))
refused_rank why.Utf8 = ((λ e. omega arith), (λ e. omega arith))
refused_rank why.Blank = ((λ e. omega arith), (λ e. omega arith))
refused_rank why.Syntax = ((λ e. omega arith), (λ e. omega arith))
refused_rank why.Subject = ((λ e. omega arith), (λ e. omega arith))
refused_rank why.Wide = ((λ e. omega arith), (λ e. omega arith))

apart : (line : List ℕ) (a b : Reading) → rank a < rank b → IsReading line a → IsReading line b → ⊥
apart line (refused why.LineTooLong) (refused why.Utf8) below is is' = let fits = is'.0 in omega arith
apart line (refused why.LineTooLong) nothing below is is' = let fits = is'.0.fits in omega arith
apart line (refused why.LineTooLong) (refused why.Blank) below is is' = let fits = is'.0.fits in omega arith
apart line (refused why.LineTooLong) (refused why.Syntax) below is is' = let fits = is'.0.fits in omega arith
apart line (refused why.LineTooLong) (refused why.Subject) below is is' = let fits = is'.0.fits in omega arith
apart line (refused why.LineTooLong) (holds s) below is is' = let fits = is'.0.fits in omega arith
apart line (refused why.LineTooLong) (refused why.Wide) below is is' = let fits = is'.0.fits in omega arith
apart line (refused why.Utf8) nothing below is is' = is.1 is'.0.utf8
apart line (refused why.Utf8) (refused why.Blank) below is is' = is.1 is'.0.utf8
apart line (refused why.Utf8) (refused why.Syntax) below is is' = is.1 is'.0.utf8
apart line (refused why.Utf8) (refused why.Subject) below is is' = is.1 is'.0.utf8
apart line (refused why.Utf8) (holds s) below is is' = is.1 is'.0.utf8
apart line (refused why.Utf8) (refused why.Wide) below is is' = is.1 is'.0.utf8
apart line nothing (refused why.Blank) below is is' = empty_no_blank line is.1 is'.1
apart line nothing (refused why.Syntax) below is is' = is'.1.not_empty is.1
apart line nothing (refused why.Subject) below is is' = empty_no_triple line is'.1.subject is'.1.property is'.1.thing is.1 is'.1.triple
apart line nothing (holds s) below is is' = empty_no_triple line is'.1.subject is'.1.property s.object is.1 is'.1.triple
apart line nothing (refused why.Wide) below is is' = empty_no_triple line is'.1.1.subject is'.1.1.property is'.1.0.object is.1 is'.1.1.triple
apart line (refused why.Blank) (refused why.Syntax) below is is' = is'.1.no_blank_node is.1
apart line (refused why.Blank) (refused why.Subject) below is is' = blank_no_triple line is'.1.subject is'.1.property is'.1.thing is.1 is'.1.triple
apart line (refused why.Blank) (holds s) below is is' = blank_no_triple line is'.1.subject is'.1.property s.object is.1 is'.1.triple
apart line (refused why.Blank) (refused why.Wide) below is is' = blank_no_triple line is'.1.1.subject is'.1.1.property is'.1.0.object is.1 is'.1.1.triple
apart line (refused why.Syntax) (refused why.Subject) below is is' = is.1.no_triple is'.1.subject is'.1.property is'.1.thing is'.1.triple
apart line (refused why.Syntax) (holds s) below is is' = is.1.no_triple is'.1.subject is'.1.property s.object is'.1.triple
apart line (refused why.Syntax) (refused why.Wide) below is is' = is.1.no_triple is'.1.1.subject is'.1.1.property is'.1.0.object is'.1.1.triple
apart line (refused why.Subject) (holds s) below is is' = says_some line s is'.1 is.1
apart line (refused why.Subject) (refused why.Wide) below is is' = says_some line is'.1.0 is'.1.1 is.1
apart line (holds s) (refused why.Wide) below is is' =
    let same = says_one line s is'.1.0 is.1 is'.1.1 in
    let lengths : length (written_line s) ≡ length (written_line is'.1.0) = ap (λ (t : Statement). length (written_line t)) same in
    let fits = is.2 in
    let wide = is'.1.2 in
    omega arith
apart line a b below is is' = absurd (omega (arith, rank_bound a, rank_bound b))

same_refusal : (v w : LineRefusal) → rank (refused v) ≡ rank (refused w) → v ≡ w
same_refusal why.LineTooLong why.LineTooLong same = refl
same_refusal why.Utf8 why.Utf8 same = refl
same_refusal why.Blank why.Blank same = refl
same_refusal why.Syntax why.Syntax same = refl
same_refusal why.Subject why.Subject same = refl
same_refusal why.Wide why.Wide same = refl
same_refusal v w same = absurd (omega arith)

same_rank : (line : List ℕ) (a b : Reading) → rank a ≡ rank b → IsReading line a → IsReading line b → a ≡ b
same_rank line nothing nothing same is is' = refl
same_rank line nothing (holds t) same is is' = absurd (omega arith)
same_rank line nothing (refused w) same is is' = absurd ((refused_rank w).0 (sym same))
same_rank line (holds s) nothing same is is' = absurd (omega arith)
same_rank line (holds s) (holds t) same is is' = ap holds (says_one line s t is.1 is'.1)
same_rank line (holds s) (refused w) same is is' = absurd ((refused_rank w).1 (sym same))
same_rank line (refused v) nothing same is is' = absurd ((refused_rank v).0 same)
same_rank line (refused v) (holds t) same is is' = absurd ((refused_rank v).1 same)
same_rank line (refused v) (refused w) same is is' = ap refused (same_refusal v w same)

-- a line reads in one way
pub one_reading : (line : List ℕ) (a b : Reading) → IsReading line a → IsReading line b → a ≡ b
one_reading line a b is is' =
    ⊎_elim (λ (below : rank a < rank b). absurd (apart line a b below is is'))
    (λ (above : rank b ≤ rank a).
    ⊎_elim (λ (below : rank b < rank a). absurd (apart line b a below is' is))
    (λ (most : rank a ≤ rank b). same_rank line a b (omega arith) is is')
    (cases_lt (rank b) (rank a)))
    (cases_lt (rank a) (rank b))

-- so what is told is the one reading
pub told_only : (line : List ℕ) (o : Option Reading) → IfSome o (IsReading line) → (reading : Reading) → IsReading line reading → IfSome o (λ t. t ≡ reading)
told_only line None tells reading is = tt
told_only line (Some t) tells reading is = one_reading line t reading tells is
