-- What the rules of the profile leave a subject of a model without fault to say.
use Rattle.std.proofs.Common.{◌≡◌, ℕ, inl, inr, List, [], ◌∷◌, length, Bool, true, false, not, ◌&&◌, ◌||◌, nat_lt, Some, refl, ap, arith, ltb-false, map}
use Rattle.std.specs.List.{filter_map, list_any}
use Rattle.std.proofs.lemmas.Bool.{false_from_ne_true, not-false, or_right}
use Rattle.plain_laws.proofs.Members.{Among}
use Rattle.plain_laws.proofs.Tests.{none_among}
use Rattle.plain_laws.proofs.Truth.{and_first_false}
use Rattle.cim_words.specs.Groups.{is_terminal, is_clamp, is_cut, is_known_class}
use Rattle.cim_words.specs.declared.class.Class.{Class}
use Rattle.cim_words.specs.declared.known_prop.KnownProp.{KnownProp}
use Rattle.cim_words.specs.Properties as property
use Rattle.cim_words.specs.declared.object.Object.{Object}
use Rattle.cim_words.specs.declared.object.Object.TheVariants as object
use Rattle.cim_words.specs.declared.statement.Statement.{Statement}
use Rattle.cim_model.specs.Model.{class_named, counts, id_said, is_empty, is_of, is_subject, said, types}
use Rattle.cim_model.specs.Network.{value_of}
use Rattle.cim_model.specs.Profile.{IsFaultless, attributes, breaks, breaks_once, breaks_owner, breaks_target, breaks_type, is_one_name, names_target, names_wrongly, references, states_twice}
use Rattle.cim_model.specs.Stated.{terminals_of}
use Rattle.cim_model.proofs.SaidLemmas.{of_class_is_subject, said_subject, value_is}

-- a subject breaks no rule
pub breaks_no_rule : (m : List Statement) (rule x : ℕ) → IsFaultless m → is_subject m x ≡ true → breaks m rule x ≡ false
breaks_no_rule m rule x faultless subject = false_from_ne_true (breaks m rule x) (λ h. faultless rule x (record { subject = subject; broken = h }))

pub passes_unless : (a b : Bool) → (not a && b) ≡ false → b ≡ true → a ≡ true
passes_unless true b h is = refl
passes_unless false b h is = absurd cc

pub among_some : {X : Type 0} (xs : List X) (x : X) → Among xs x → is_empty xs ≡ false
among_some [] x h = absurd h
among_some (y ∷ ys) x h = refl

pub empty_map : {X Y : Type 0} (f : X → Y) (xs : List X) → is_empty (map f xs) ≡ is_empty xs
empty_map f [] = refl
empty_map f (x ∷ xs) = refl

pub some_among : {X : Type 0} (xs : List X) → is_empty xs ≡ false → (x : X) × Among xs x
some_among [] h = absurd cc
some_among (y ∷ ys) h = (y, inl refl)

-- what has a terminal is of one class
one_name_types : (os : List Object) → is_one_name os ≡ true → (c : Class) × (filter_map class_named os ≡ c ∷ [])
one_name_types [] h = absurd cc
one_name_types (object.Name text ∷ []) h = (_, refl)
one_name_types (object.Name text ∷ o ∷ os) h = absurd cc
one_name_types (object.Id id ∷ os) h = absurd cc
one_name_types (object.Text text ∷ os) h = absurd cc

pub one_class : (m : List Statement) (x t : ℕ) → IsFaultless m → is_subject m x ≡ true → Among (terminals_of m x) t → (c : Class) × (types m x ≡ c ∷ [])
one_class m x t faultless subject has =
    let kept : breaks_type m x ≡ false = breaks_no_rule m 1 x faultless subject in
    one_name_types (said m x property.rdf_type) (passes_unless (is_one_name (said m x property.rdf_type)) _ kept (or_right (is_of m is_known_class x) _ (ap not (among_some (terminals_of m x) t has))))

-- what a subject says by a property that counts on it is all that it says by it
only_one : {X : Type 0} (xs : List X) (x : X) → nat_lt 1 (length xs) ≡ false → Among xs x → xs ≡ x ∷ []
only_one [] x few there = absurd there
only_one (y ∷ []) x few (inl is) = ap (λ (z : _). z ∷ []) is
only_one (y ∷ []) x few (inr none) = absurd none
only_one (y ∷ z ∷ xs) x few there = absurd (omega (arith, ltb-false))

pub said_once : (m : List Statement) (x : ℕ) (k : KnownProp) (o : Object) → IsFaultless m → Among attributes k → counts m x k ≡ true → Among (said m x k) o → said m x k ≡ o ∷ []
said_once m x k o faultless listed counted there =
    let kept : breaks_once m x ≡ false = breaks_no_rule m 2 x faultless (said_subject m x k o there) in
    only_one (said m x k) o (and_first_false (nat_lt 1 (length (said m x k))) (counts m x k) (none_among (states_twice m x) attributes k kept listed) counted) there

-- a terminal says something by the property of its equipment
says_one : (a b c d e f : Bool) → (a && b || c && d || e && f) ≡ false → a ≡ true → b ≡ false
says_one true true c d e f h is = absurd cc
says_one true false c d e f h is = refl
says_one false b c d e f h is = absurd cc

pub owner_said : (m : List Statement) (t : ℕ) → IsFaultless m → is_of m is_terminal t ≡ true → is_empty (said m t property.conducting_equipment) ≡ false
owner_said m t faultless terminal =
    let kept : breaks_owner m t ≡ false = breaks_no_rule m 3 t faultless (of_class_is_subject m is_terminal t terminal) in
    says_one (is_of m is_terminal t) (is_empty (said m t property.conducting_equipment)) (is_of m is_clamp t) (is_empty (said m t property.clamp_segment)) (is_of m is_cut t) (is_empty (said m t property.cut_segment)) kept terminal

-- what a reference names is of the right class
pub target_said : (m : List Statement) (x : ℕ) (k : KnownProp) (o : Object) → IsFaultless m → Among references k → counts m x k ≡ true → Among (said m x k) o → names_target m k o ≡ true
target_said m x k o faultless listed counted there =
    let kept : breaks_target m x ≡ false = breaks_no_rule m 4 x faultless (said_subject m x k o there) in
    let right : list_any (λ o. not (names_target m k o)) (said m x k) ≡ false = and_first_false (list_any (λ o. not (names_target m k o)) (said m x k)) (counts m x k) (none_among (names_wrongly m x) references k kept listed) counted in
    not-false (names_target m k o) (none_among (λ o. not (names_target m k o)) (said m x k) o right there)

-- what a reference that counts says is its value
names_id : (m : List Statement) (k : KnownProp) (o : Object) → names_target m k o ≡ true → (y : ℕ) × (id_said o ≡ Some y)
names_id m k (object.Id id) right = (id.number, refl)
names_id m k (object.Name text) right = absurd cc
names_id m k (object.Text text) right = absurd cc

pub named_value : (m : List Statement) (x : ℕ) (k : KnownProp) → IsFaultless m → Among attributes k → Among references k → counts m x k ≡ true → is_empty (said m x k) ≡ false
    → (y : ℕ) × (value_of id_said m x k ≡ Some y)
named_value m x k faultless listed refers counted says =
    let o = some_among (said m x k) says in
    let id = names_id m k o.0 (target_said m x k o.0 faultless refers counted o.1) in
    (id.0, value_is id_said m x k o.0 id.0 counted (said_once m x k o.0 faultless listed counted o.1) id.1)
