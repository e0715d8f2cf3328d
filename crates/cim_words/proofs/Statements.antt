-- When two statements are one, and what their parts say.
use Rattle.std.proofs.Common.{◌≡◌, ℕ, ◌<◌, ◌^◌, List, Option, Some, None, [], ◌∷◌, Bool, cond, IsTrue, find, refl, ap, sym, ◌∙◌, rules, true, false}
use Rattle.std.proofs.Math.Bool.{Bool-set}
use mathlib.Core.HLevel.{is_prop→PathP}
use Rattle.std.specs.Str.{bytes_eq}
use Rattle.std.proofs.lemmas.Slice.Eq.{bytes_eq-Decides}
use Rattle.cim_words.specs.declared.identifier.Id.{Id}
use Rattle.plain_laws.proofs.Options.{none_from_test}
use Rattle.cim_words.specs.declared.known_prop.TheConstants.{KNOWN_PROPS}
use Rattle.cim_words.specs.IdText.{iri_number, id_iri}
use Rattle.cim_words.specs.KnownProp.{known_iri, known_prop}
use Rattle.cim_words.specs.Class.{cim_namespace}
use Rattle.cim_words.specs.Prop.{prop_of, prop_iri, is_proper_prop, prop_or_text}
use Rattle.cim_words.specs.Object.{object_of, is_proper_object}
use Rattle.cim_words.specs.declared.known_prop.KnownProp.{KnownProp}
use Rattle.cim_words.specs.declared.known_prop.KnownProp.TheVariants.{K1, K2, K3, K4, K5, K6, K7, K8, K9, K10, K11, K12, K13, K14, K15, K16, K17, K18, K19, K20}
use Rattle.cim_words.specs.declared.prop.Prop.{Prop}
use Rattle.cim_words.specs.declared.prop.Prop.TheVariants as prop
use Rattle.cim_words.specs.declared.object.Object.TheVariants as object
use Rattle.cim_words.specs.declared.statement.Statement.{Statement}
use Rattle.cim_words.proofs.IdTexts.{iri_number-id_iri}

-- identifiers with one number are one
pub same_id : (i j : Id) → i.number ≡ j.number → i ≡ j
same_id i j is k = record { number = is k }

-- statements with the same subject, property and object are one
pub same_statement : (a b : Statement) → a.subject ≡ b.subject → a.prop ≡ b.prop → a.object ≡ b.object → a ≡ b
same_statement a b subjects properties objects i = record {
  subject = subjects i;
  prop = properties i;
  object = objects i;
  proper_prop = is_prop→PathP (λ j. IsTrue (is_proper_prop (properties j))) (λ j. hlevel Bool-set) a.proper_prop b.proper_prop i;
  proper_object = is_prop→PathP (λ j. IsTrue (is_proper_object (objects j))) (λ j. hlevel Bool-set) a.proper_object b.proper_object i;
}

-- a known property is the one that its IRI names
pub known_prop-known_iri : (k : KnownProp) → known_prop (known_iri k) ≡ Some k
unfolding known_prop known_iri cim_namespace
known_prop-known_iri K1 = refl
known_prop-known_iri K2 = refl
known_prop-known_iri K3 = refl
known_prop-known_iri K4 = refl
known_prop-known_iri K5 = refl
known_prop-known_iri K6 = refl
known_prop-known_iri K7 = refl
known_prop-known_iri K8 = refl
known_prop-known_iri K9 = refl
known_prop-known_iri K10 = refl
known_prop-known_iri K11 = refl
known_prop-known_iri K12 = refl
known_prop-known_iri K13 = refl
known_prop-known_iri K14 = refl
known_prop-known_iri K15 = refl
known_prop-known_iri K16 = refl
known_prop-known_iri K17 = refl
known_prop-known_iri K18 = refl
known_prop-known_iri K19 = refl
known_prop-known_iri K20 = refl

-- a property is the one that its IRI names
pub prop_of-prop_iri : (p : Prop) → IsTrue (is_proper_prop p) → prop_of (prop_iri p) ≡ p
prop_of-prop_iri (prop.Known k) proper = rw (known_prop-known_iri k) refl
prop_of-prop_iri (prop.Other text) proper = rw (none_from_test (known_prop text) proper) refl

-- an IRI names the identifier that it spells, and itself where it spells none
pub object_of-id_iri : (n : ℕ) → n < 2 ^ 128 → object_of (id_iri n) ≡ object.Id (record { number = n })
object_of-id_iri n fits = rw (iri_number-id_iri n fits) refl

pub object_of-name : (text : List ℕ) → IsTrue (is_proper_object (object.Name text)) → object_of text ≡ object.Name text
object_of-name text proper = rw (none_from_test (iri_number text) proper) refl

found_at : (rows : List KnownProp) (row : KnownProp) (text : List ℕ) (k : KnownProp) (b : Bool) → bytes_eq (known_iri row) text ≡ b
    → (find (λ k. bytes_eq (known_iri k) text) rows ≡ Some k → known_iri k ≡ text)
    → cond b (Some row) (find (λ k. bytes_eq (known_iri k) text) rows) ≡ Some k → known_iri k ≡ text
found_at rows row text k true same later found = let is : row ≡ k = cc in ap known_iri (sym is) ∙ search (rules, bytes_eq-Decides)
found_at rows row text k false same later found = later found

-- a known property that an IRI names has that IRI
found_is : (rows : List KnownProp) (text : List ℕ) (k : KnownProp) → find (λ k. bytes_eq (known_iri k) text) rows ≡ Some k → known_iri k ≡ text
found_is [] text k found = absurd cc
found_is (row ∷ rows) text k found = found_at rows row text k (bytes_eq (known_iri row) text) refl (found_is rows text k) found

-- so what an IRI names, known or not, has that IRI
pub named_at : (text : List ℕ) (o : Option KnownProp) → known_prop text ≡ o → prop_iri (prop_or_text o text) ≡ text
unfolding known_prop
named_at text None is = refl
named_at text (Some k) is = found_is KNOWN_PROPS text k is

-- the property that an IRI names has that IRI
pub prop_iri-prop_of : (text : List ℕ) → prop_iri (prop_of text) ≡ text
prop_iri-prop_of text = named_at text (known_prop text) refl
