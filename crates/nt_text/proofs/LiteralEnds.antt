-- Where literals and other objects of a triple end.
use Rattle.std.proofs.Common.{◌≡◌, ℕ, List, ◌∷◌, ◌++◌, inl, inr, Bool, true, false, ◌==◌, refl, sym, ap, ◌∙◌, subst, codes, Result, Ok, Err, IfOk, IsTrue, ◌↔◌, ◌⊎◌}
use Rattle.nt_text.proofs.TermForms.{iri_begins, literal_begins}
use Rattle.nt_text.specs.Spelling.{closing}
use Rattle.cim_words.specs.declared.object.Object.{Object}
use Rattle.cim_words.specs.Written.{quote}
use Rattle.cim_words.specs.Object.{object_of}
use Rattle.nt_text.specs.Ends.{HasIriEnd, HasLiteralEnd, HasLiteralToEnd, HasObjectToEnd, HasTagEnd}
use Rattle.nt_text.specs.Grammar.{HasCharacters, HasIri, HasKind, HasObject, IsEnd, is_blank}
use Rattle.nt_text.specs.Run.{behind_run}
use Rattle.nt_text.proofs.Runs.{behind_run-append, run_of, end_begins}
use Rattle.cim_words.specs.declared.object.Object.TheVariants as object

-- the end alone, a datatype and the end, or a language tag and the end
pub data LiteralEnd (bytes : List ℕ) : Type 0 where
  plain : IsEnd bytes → LiteralEnd bytes
  typed : (behind : List ℕ) → behind_run is_blank bytes ≡ codes "^^" ++ behind → HasIriEnd behind → LiteralEnd bytes
  tagged : (behind : List ℕ) → behind_run is_blank bytes ≡ codes "@" ++ behind → HasTagEnd behind → LiteralEnd bytes

kind_end : (bytes rest : List ℕ) → HasKind bytes rest → IsEnd rest → LiteralEnd bytes
kind_end bytes rest (inl same) ends = plain (let P : List ℕ → Type 0 = IsEnd in subst P (sym same) ends)
kind_end bytes rest (inr (inl datatype)) ends =
    typed datatype.behind (ap (behind_run is_blank) datatype.layout ∙ behind_run-append is_blank datatype.gap (codes "^^" ++ datatype.behind) datatype.blank)
    (record { text = datatype.text; rest = rest; iri = datatype.iri; ends = ends })
kind_end bytes rest (inr (inr language)) ends =
    tagged (language.tag ++ rest) (ap (behind_run is_blank) language.layout ∙ behind_run-append is_blank language.gap (codes "@" ++ (language.tag ++ rest)) language.blank)
    (record { rest = rest; has = record { tag = language.tag; language = language.language; layout = refl }; ends = ends })

pub literal_end : (bytes : List ℕ) → HasLiteralEnd bytes → LiteralEnd bytes
literal_end bytes end = kind_end bytes end.rest end.kind end.ends

pub plain_end : (bytes : List ℕ) → IsEnd bytes → HasLiteralEnd bytes
plain_end bytes ends = record { rest = bytes; kind = inl refl; ends = ends }

pub typed_end : (bytes behind : List ℕ) → behind_run is_blank bytes ≡ codes "^^" ++ behind → HasIriEnd behind → HasLiteralEnd bytes
typed_end bytes behind begins end =
    let gap = run_of is_blank bytes in
    record {
      rest = end.rest;
      kind = inr (inl (record {
        gap = gap.run;
        behind = behind;
        text = end.text;
        blank = gap.passes;
        layout = gap.layout ∙ ap (λ (l : List ℕ). gap.run ++ l) begins;
        iri = end.iri;
      }));
      ends = end.ends;
    }

pub tagged_end : (bytes behind : List ℕ) → behind_run is_blank bytes ≡ codes "@" ++ behind → HasTagEnd behind → HasLiteralEnd bytes
tagged_end bytes behind begins end =
    let gap = run_of is_blank bytes in
    record {
      rest = end.rest;
      kind = inr (inr (record {
        gap = gap.run;
        tag = end.has.tag;
        blank = gap.passes;
        language = end.has.language;
        layout = gap.layout ∙ ap (λ (l : List ℕ). gap.run ++ l) (begins ∙ ap (λ (l : List ℕ). codes "@" ++ l) end.has.layout);
      }));
      ends = end.ends;
    }

-- the first bytes after the gap tell which of them stands there
pub other_byte : (front a b : List ℕ) (x y : ℕ) → (x == y) ≡ false → (y == y) ≡ true → front ≡ x ∷ a → front ≡ y ∷ b → ⊥
other_byte front a b x y differ same begins begins' =
    let heads : x ≡ y = (let lists : x ∷ a ≡ y ∷ b = sym begins ∙ begins' in cc) in
    let no : true ≡ false = sym same ∙ ap (λ (n : ℕ). n == y) (sym heads) ∙ differ in cc

pub plain_not_typed : (bytes behind : List ℕ) → IsEnd bytes → behind_run is_blank bytes ≡ codes "^^" ++ behind → ⊥
plain_not_typed bytes behind end begins = other_byte (behind_run is_blank bytes) end.after (0x5E ∷ behind) 0x2E 0x5E refl refl (end_begins bytes end) begins

pub plain_not_tagged : (bytes behind : List ℕ) → IsEnd bytes → behind_run is_blank bytes ≡ codes "@" ++ behind → ⊥
plain_not_tagged bytes behind end begins = other_byte (behind_run is_blank bytes) end.after behind 0x2E 0x40 refl refl (end_begins bytes end) begins

pub typed_not_tagged : (bytes a b : List ℕ) → behind_run is_blank bytes ≡ codes "^^" ++ a → behind_run is_blank bytes ≡ codes "@" ++ b → ⊥
typed_not_tagged bytes a b begins begins' = other_byte (behind_run is_blank bytes) (0x5E ∷ a) b 0x5E 0x40 refl refl begins begins'

-- a test of one fact is a test of another that is the same
pub same_test : {E : Type 0} (r : Result Bool E) (P Q : Type 0) → IfOk r (λ is. IsTrue is ↔ P) → (P → Q) → (Q → P) → IfOk r (λ is. IsTrue is ↔ Q)
same_test (Ok b) P Q test there back = ((λ is. there (test.0 is)), (λ holds. test.1 (back holds)))
same_test (Err e) P Q test there back = tt

-- ---- the object of a triple: an IRI or a literal, up to the end

abbrev pub NamedToEnd : List ℕ → Object → Type 0
NamedToEnd bytes thing = (end : HasIriEnd bytes) × (thing ≡ object_of end.text)

abbrev pub LiteralToEnd : List ℕ → Object → Type 0
LiteralToEnd bytes thing = (end : HasLiteralToEnd bytes) × (thing ≡ object.Text end.text)

at_end : (bytes rest : List ℕ) (thing : Object) → HasObject bytes thing rest → IsEnd rest → NamedToEnd bytes thing ⊎ LiteralToEnd bytes thing
at_end bytes rest thing (inl named) ends = inl (record { text = named.text; rest = rest; iri = named.iri; ends = ends }, named.names)
at_end bytes rest thing (inr literal) ends = inr (
  record { text = literal.text; behind = literal.behind; characters = literal.characters; ends = record { rest = rest; kind = literal.kind; ends = ends } },
  literal.names,
)

-- an object up to the end is an IRI or a literal up to the end
pub object_to_end : (bytes : List ℕ) (thing : Object) → HasObjectToEnd bytes thing → NamedToEnd bytes thing ⊎ LiteralToEnd bytes thing
object_to_end bytes thing end = at_end bytes end.rest thing end.has end.ends

-- an IRI is no literal
pub iri_no_literal : (bytes text rest text' rest' : List ℕ) → HasIri bytes text rest → HasCharacters bytes text' rest' → ⊥
iri_no_literal bytes text rest text' rest' iri literal =
    other_byte (behind_run is_blank bytes) (iri.inside ++ closing ∷ rest) (literal.inside ++ quote ∷ rest') 0x3C quote refl refl
    (iri_begins bytes text rest iri) (literal_begins bytes text' rest' literal)
