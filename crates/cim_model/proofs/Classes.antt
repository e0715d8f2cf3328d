-- A subject of a model without fault has one class: its type statements name one, or all name classes without a meaning.
use Rattle.std.proofs.Common.{◌≡◌, ℕ, List, [], ◌∷◌, Bool, true, false, not, ◌&&◌, ◌||◌, refl, sym, ap}
use Rattle.std.specs.List.{filter_map, list_any}
use Rattle.std.proofs.lemmas.Bool.{false_from_ne_true, or_parts}
use Rattle.std.proofs.Math.Bool.{or-false}
use Rattle.plain_laws.proofs.Filters.{filter_none}
use Rattle.cim_words.specs.Groups.{is_known_class}
use Rattle.cim_words.specs.declared.class.Class.{Class}
use Rattle.cim_words.specs.declared.class.Class.TheVariants as class
use Rattle.cim_words.specs.Properties as property
use Rattle.cim_words.specs.declared.object.Object.{Object}
use Rattle.cim_words.specs.declared.object.Object.TheVariants as object
use Rattle.cim_words.specs.declared.statement.Statement.{Statement}
use Rattle.cim_model.specs.Model.{is_about, is_subject, is_of, class_named, said, is_empty}
use Rattle.cim_model.specs.Network.{class_in, first, is_class}
use Rattle.cim_model.specs.Profile.{IsFaultless, breaks_type, is_one_name}
use Rattle.cim_model.specs.Stated.{terminals_of}

-- classes without a meaning are one
unknown_is_other : (c : Class) → is_known_class c ≡ false → c ≡ class.Other
unknown_is_other class.Other h = refl
unknown_is_other _ h = absurd cc

-- of classes without a meaning, a test holds of one exactly where it holds of the first
none_passes : (test : Class → Bool) (cs : List Class) → test class.Other ≡ false → list_any is_known_class cs ≡ false → list_any test cs ≡ false
none_passes test [] fails none = refl
none_passes test (c ∷ cs) fails none =
    let parts = or_parts (is_known_class c) (list_any is_known_class cs) none in
    rw (unknown_is_other c parts.0, fails) (none_passes test cs fails parts.1)

same_or : (t : Bool) (test : Class → Bool) (cs : List Class) → list_any is_known_class cs ≡ false → t ≡ test class.Other → (t || list_any test cs) ≡ t
same_or true test cs none is = refl
same_or false test cs none is = none_passes test cs (sym is) none

unknown_classes : (test : Class → Bool) (cs : List Class) → list_any is_known_class cs ≡ false → list_any test cs ≡ is_class test (first cs)
unknown_classes test [] none = refl
unknown_classes test (c ∷ cs) none =
    let parts = or_parts (is_known_class c) (list_any is_known_class cs) none in
    same_or (test c) test cs parts.1 (ap test (unknown_is_other c parts.0))

named_class : (test : Class → Bool) (os : List Object) → is_one_name os ≡ true → list_any test (filter_map class_named os) ≡ is_class test (first (filter_map class_named os))
named_class test [] h = absurd cc
named_class test (object.Name text ∷ []) h = or-false _
named_class test (object.Name text ∷ o ∷ os) h = absurd cc
named_class test (object.Id id ∷ os) h = absurd cc
named_class test (object.Text text ∷ os) h = absurd cc

by_name : (test : Class → Bool) (os : List Object) (b r : Bool) → is_one_name os ≡ b → (not b && (list_any is_known_class (filter_map class_named os) || r)) ≡ false
    → list_any test (filter_map class_named os) ≡ is_class test (first (filter_map class_named os))
by_name test os true r is h = named_class test os is
by_name test os false r is h = unknown_classes test (filter_map class_named os) (or_parts (list_any is_known_class (filter_map class_named os)) r h).0

-- where nothing is about x, it has no class
no_class : (test : Class → Bool) (m : List Statement) (x : ℕ) → is_subject m x ≡ false → is_of m test x ≡ is_class test (class_in m x)
no_class test m x none = rw (filter_none (is_about x) m none) refl

a_class : (test : Class → Bool) (m : List Statement) (x : ℕ) → IsFaultless m → is_subject m x ≡ true → is_of m test x ≡ is_class test (class_in m x)
a_class test m x faultless subject =
    by_name test (said m x property.rdf_type) (is_one_name (said m x property.rdf_type)) (not (is_empty (terminals_of m x))) refl
    (false_from_ne_true (breaks_type m x) (λ broken. faultless 1 x (record { subject = subject; broken = broken })))

one_class_at : (test : Class → Bool) (m : List Statement) (x : ℕ) (b : Bool) → is_subject m x ≡ b → IsFaultless m → is_of m test x ≡ is_class test (class_in m x)
one_class_at test m x true is faultless = a_class test m x faultless is
one_class_at test m x false is faultless = no_class test m x is

-- a subject of a model without fault is of a class that passes a test exactly where its class does
pub is_of_by_class : (test : Class → Bool) (m : List Statement) (x : ℕ) → IsFaultless m → is_of m test x ≡ is_class test (class_in m x)
is_of_by_class test m x faultless = one_class_at test m x (is_subject m x) refl faultless
