-- Terminals of a model without fault, their equipment and their nodes.
use Rattle.std.proofs.Common.{◌≡◌, ℕ, inl, inr, List, [], ◌∷◌, Bool, true, false, not, ◌&&◌, cond, Option, None, Some, is_some, refl, ap, sym, ◌∙◌}
use Rattle.std.specs.List.{filter, filter_map}
use Rattle.cim_words.specs.Groups.{is_equipment_class, is_node, is_part, is_terminal}
use Rattle.cim_words.specs.declared.class.Class.{Class}
use Rattle.cim_words.specs.Properties as property
use Rattle.cim_words.specs.declared.object.Object.{Object}
use Rattle.cim_words.specs.declared.object.Object.TheVariants as object
use Rattle.cim_words.specs.declared.statement.Statement.{Statement}
use Rattle.cim_model.specs.Model.{counts, id_said, is_empty, is_of, is_subject, naming, said, types}
use Rattle.cim_model.specs.Network.{first, is_equipment, node_of, owner_of, value_of}
use Rattle.cim_model.specs.Profile.{IsFaultless, attributes, names_target}
use Rattle.cim_model.specs.Stated.{terminals_at, terminals_of}
use Rattle.std.proofs.lemmas.Option.{same_Some}
use Rattle.std.proofs.lemmas.Bool.{and_from, or_right}
use Rattle.std.specs.Prelude.{Contains, ◌↔◌}
use Rattle.cim_words.specs.declared.known_prop.KnownProp.{KnownProp}
use Rattle.plain_laws.proofs.Members.{Among, among_contained, among_filter, among_filter_passes, contains_among, filter_among}
use Rattle.cim_model.proofs.FaultlessSubjects.{among_some, named_value, one_class, owner_said, said_once, some_among, target_said}
use Rattle.cim_model.proofs.SaidLemmas.{IsStated, naming_says, said_subject, says_naming, value_is, value_stated}

-- what a subject states by a property that counts on it, and whom it names, are listed alike
stated_listed : (m : List Statement) (k : KnownProp) (y t : ℕ) → value_of id_said m t k ≡ Some y → Among (filter (λ u. counts m u k) (naming m k y)) t
stated_listed m k y t states =
    let stated : IsStated id_said m t k y = value_stated id_said m t k y states in
    among_filter (λ u. counts m u k) (naming m k y) t (says_naming m k y t stated.object stated.said stated.read) stated.counts

listed_stated : (m : List Statement) (k : KnownProp) (y t : ℕ) → IsFaultless m → Among attributes k → Among (filter (λ u. counts m u k) (naming m k y)) t → value_of id_said m t k ≡ Some y
listed_stated m k y t faultless once listed =
    let counted : counts m t k ≡ true = among_filter_passes (λ u. counts m u k) (naming m k y) t listed in
    let names = naming_says m k y t (filter_among (λ u. counts m u k) (naming m k y) t listed) in
    value_is id_said m t k names.0 y counted (said_once m t k names.0 faultless once counted names.1) names.2

-- the terminals of equipment are those that it owns
pub owned_is_listed : (m : List Statement) (y t : ℕ) → owner_of m t ≡ Some y → Among (terminals_of m y) t
owned_is_listed m y t owned = stated_listed m property.conducting_equipment y t owned

pub listed_is_owned : (m : List Statement) (y t : ℕ) → IsFaultless m → Among (terminals_of m y) t → owner_of m t ≡ Some y
listed_is_owned m y t faultless listed = listed_stated m property.conducting_equipment y t faultless (inl refl) listed

-- what owns a terminal has a type, and so it is equipment and of one class
typed : (some : Bool) (part : Bool) → (not some && not part) ≡ true → some ≡ false
typed true part h = absurd cc
typed false part h = refl

target_subject : (m : List Statement) (o : Object) (y : ℕ) → names_target m property.conducting_equipment o ≡ true → id_said o ≡ Some y → is_subject m y ≡ true
target_subject m (object.Id id) y right is =
    let type = some_among (said m id.number property.rdf_type) (typed (is_empty (said m id.number property.rdf_type)) (is_of m is_part id.number) right) in
    ap (is_subject m) (sym (same_Some id.number y is)) ∙ said_subject m id.number property.rdf_type type.0 type.1
target_subject m (object.Name text) y right is = absurd cc
target_subject m (object.Text text) y right is = absurd cc

pub owner_subject : (m : List Statement) (y t : ℕ) → IsFaultless m → owner_of m t ≡ Some y → is_subject m y ≡ true
owner_subject m y t faultless owned =
    let stated : IsStated id_said m t property.conducting_equipment y = value_stated id_said m t property.conducting_equipment y owned in
    target_subject m stated.object y (target_said m t property.conducting_equipment stated.object faultless (inl refl) stated.counts stated.said) stated.read

pub owner_equipment : (m : List Statement) (y t : ℕ) → IsFaultless m → owner_of m t ≡ Some y → is_equipment m y ≡ true
owner_equipment m y t faultless owned =
    and_from (is_subject m y) _ (owner_subject m y t faultless owned) (or_right (is_of m is_equipment_class y) _ (ap not (among_some (terminals_of m y) t (owned_is_listed m y t owned))))

pub owner_class : (m : List Statement) (y t : ℕ) → IsFaultless m → owner_of m t ≡ Some y → (c : Class) × (types m y ≡ c ∷ [])
owner_class m y t faultless owned = one_class m y t faultless (owner_subject m y t faultless owned) (owned_is_listed m y t owned)

-- each terminal has an owner, and nothing else has one
pub terminal_owned : (m : List Statement) (t : ℕ) → IsFaultless m → is_of m is_terminal t ≡ true → (y : ℕ) × (owner_of m t ≡ Some y)
terminal_owned m t faultless terminal = named_value m t property.conducting_equipment faultless (inl refl) (inl refl) terminal (owner_said m t faultless terminal)

pub owned_terminal : (m : List Statement) (y t : ℕ) → owner_of m t ≡ Some y → is_of m is_terminal t ≡ true
owned_terminal m y t owned = let stated : IsStated id_said m t property.conducting_equipment y = value_stated id_said m t property.conducting_equipment y owned in stated.counts

owner_if : (m : List Statement) (t : ℕ) (b : Bool) → is_of m is_terminal t ≡ b → IsFaultless m → is_some (owner_of m t) ≡ b
owner_if m t true is faultless = ap (λ (o : Option ℕ). is_some o) (terminal_owned m t faultless is).1
owner_if m t false is faultless = ap (λ (b : Bool). is_some (cond b (first (filter_map id_said (said m t property.conducting_equipment))) None)) is

pub owner_or_none : (m : List Statement) (t : ℕ) → IsFaultless m → is_some (owner_of m t) ≡ is_of m is_terminal t
owner_or_none m t faultless = owner_if m t (is_of m is_terminal t) refl faultless

-- the node of a terminal is a node
target_node : (m : List Statement) (o : Object) (n : ℕ) → names_target m property.connectivity_node o ≡ true → id_said o ≡ Some n → is_of m is_node n ≡ true
target_node m (object.Id id) n right is = ap (is_of m is_node) (sym (same_Some id.number n is)) ∙ right
target_node m (object.Name text) n right is = absurd cc
target_node m (object.Text text) n right is = absurd cc

pub node_is : (m : List Statement) (t n : ℕ) → IsFaultless m → node_of m t ≡ Some n → is_of m is_node n ≡ true
node_is m t n faultless at =
    let stated : IsStated id_said m t property.connectivity_node n = value_stated id_said m t property.connectivity_node n at in
    target_node m stated.object n (target_said m t property.connectivity_node stated.object faultless (inr (inl refl)) stated.counts stated.said) stated.read

-- the terminals at a node are those that stand there
pub standing_is_listed : (m : List Statement) (n t : ℕ) → node_of m t ≡ Some n → Among (terminals_at m n) t
standing_is_listed m n t at = stated_listed m property.connectivity_node n t at

pub listed_is_standing : (m : List Statement) (n t : ℕ) → IsFaultless m → Among (terminals_at m n) t → node_of m t ≡ Some n
listed_is_standing m n t faultless listed = listed_stated m property.connectivity_node n t faultless (inr (inl refl)) listed

pub stands_at : (m : List Statement) → IsFaultless m → (n t : ℕ) → (node_of m t ≡ Some n) ↔ Contains (terminals_at m n) t
stands_at m faultless n t = (
  λ stands. contains_among (terminals_at m n) t (standing_is_listed m n t stands),
  λ listed. listed_is_standing m n t faultless (among_contained (terminals_at m n) t listed),
)
