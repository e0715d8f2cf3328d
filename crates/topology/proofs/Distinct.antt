-- The identifiers and the places for which a graph has entries: they differ, and they are just those of the live network.
use Rattle.std.proofs.Common.{◌≡◌, ◌↔◌, ℕ, inl, inr, List, [], ◌∷◌, ◌++◌, map, Bool, true, false, ◌&&◌, ◌==◌, nat_eq, IsTrue, Option, Some, None, Contains, is_some, find, refl, ap, sym, ◌∙◌, subst}
use Rattle.std.specs.List.{AllByRecursion, IsDistinct, flat_map}
use Rattle.std.proofs.lemmas.List.{map-append, map-id}
use Rattle.std.proofs.lemmas.Bool.{eqb-true, false_from_ne_true, or_cases, or_left, or_right}
use Rattle.std.proofs.lemmas.Simd.{map-map}
use Rattle.plain_laws.proofs.Each.{each_read}
use Rattle.plain_laws.proofs.Members.{Among, among_contained, among_either, among_filter, among_filter_passes, among_flat_map, among_left, among_map, among_right, contains_among, flat_map_among, map_among}
use Rattle.plain_laws.proofs.Numbers.{equal_itself}
use Rattle.plain_laws.proofs.Options.{among_find, find_among}
use Rattle.plain_laws.proofs.Pairs.{distinct_append, distinct_filter}
use Rattle.plain_laws.proofs.Tests.{among_any, any_among}
use Rattle.plain_laws.proofs.Truth.{and_first}
use Rattle.cim_model.specs.Live.{at_node, is_live, is_place}
use Rattle.cim_model.specs.Model.{is_of, is_subject, subjects}
use Rattle.cim_model.specs.Network.{equipment, is_equipment, nodes}
use Rattle.cim_model.specs.Stands.{Stands}
use Rattle.cim_model.specs.Values.{as_id, number_of_id}
use Rattle.cim_words.specs.Groups.{is_node}
use Rattle.cim_words.specs.declared.class.Class.{Class}
use Rattle.cim_words.specs.declared.identifier.Id.{Id}
use Rattle.cim_words.specs.declared.statement.Statement.{Statement}
use Rattle.room_words.specs.Items.{item_id, item_number, makes, own_places}
use Rattle.room_words.specs.Overlay.{item_of}
use Rattle.room_words.specs.Terms.{same_anchor}
use Rattle.room_words.specs.declared.anchor.Anchor.{Anchor}
use Rattle.room_words.specs.declared.anchor.Anchor.TheVariants as anchor
use Rattle.room_words.specs.declared.items.TempItem.{TempItem}
use Rattle.room_words.specs.declared.items.TempItem.TheVariants as item
use Rattle.room_words.specs.declared.overlay.Overlay.{Overlay}
use Rattle.topology.specs.Listed.{owners, places}

-- what is known of the model, the overlay and places
pub record IsKnown (m : List Statement) (o : Overlay) : Type 0 where
  pub listed : (x : ℕ) → Contains (subjects m) x ↔ IsTrue (is_subject m x)
  pub once : IsDistinct nat_eq (subjects m)
  pub classed : (x : ℕ) (test : Class → Bool) → IsTrue (is_of m test x) → IsTrue (is_subject m x)
  pub stands : Stands m o
  pub equal : (a b : Anchor) → IsTrue (same_anchor a b) ↔ (a ≡ b)

-- from the laws of models and of places
pub known_of : (m : List Statement) (o : Overlay) → ((m : List Statement) (x : ℕ) → Contains (subjects m) x ↔ IsTrue (is_subject m x)) → ((m : List Statement) → IsDistinct nat_eq (subjects m))
    → ((m : List Statement) (x : ℕ) (test : Class → Bool) → IsTrue (is_of m test x) → IsTrue (is_subject m x)) → Stands m o → ((a b : Anchor) → IsTrue (same_anchor a b) ↔ (a ≡ b)) → IsKnown m o
known_of m o listed once classed stands equal = record { listed = listed m; once = once m; classed = classed m; stands = stands; equal = equal }

-- ---- identifiers

equipment_numbers : (xs : List ℕ) → map number_of_id (map as_id xs) ≡ xs
equipment_numbers xs = map-map number_of_id as_id xs ∙ map-id xs

pub owner_numbers : (m : List Statement) (o : Overlay) → map number_of_id (owners m o) ≡ equipment m ++ map item_number o.items
owner_numbers m o =
    map-append number_of_id (map as_id (equipment m)) (map item_id o.items)
    ∙ ap (λ (xs : List ℕ). xs ++ map number_of_id (map item_id o.items)) (equipment_numbers (equipment m))
    ∙ ap (λ (xs : List ℕ). equipment m ++ xs) (map-map number_of_id item_id o.items)

no_subject : (m : List Statement) (o : Overlay) (x : ℕ) → Stands m o → Among (map item_number o.items) x → is_subject m x ≡ false
no_subject m o x stands there =
    let one = map_among item_number o.items x there in
    ap (is_subject m) (sym one.2) ∙ (stands.items one.0 (contains_among o.items one.0 one.1)).identifier

equipment_subject : (m : List Statement) (x : ℕ) → Among (equipment m) x → is_subject m x ≡ true
equipment_subject m x there = and_first (is_subject m x) _ (among_filter_passes (is_equipment m) (subjects m) x there)

pub distinct_owners : (m : List Statement) (o : Overlay) → IsKnown m o → IsDistinct nat_eq (map number_of_id (owners m o))
distinct_owners m o known =
    rw (owner_numbers m o) (distinct_append nat_eq (equipment m) (map item_number o.items) (distinct_filter nat_eq (is_equipment m) (subjects m) known.once) known.stands.identifiers
    (λ x y here there. false_from_ne_true (nat_eq x y) (λ same.
    let both : true ≡ false = sym (equipment_subject m x here) ∙ ap (is_subject m) (eqb-true x y same) ∙ no_subject m o y known.stands there in
    cc)))

-- they are those of equipment and of items
some_found : (x : ℕ) (items : List TempItem) (one : TempItem) → Among items one → item_number one ≡ x → is_some (find (λ (other : TempItem). item_number other == x) items) ≡ true
some_found x items one there is =
    some_from_find (find (λ (other : TempItem). item_number other == x) items) (among_find (λ (other : TempItem). item_number other == x) items one there (ap (λ (n : ℕ). n == x) is ∙ equal_itself x))
  where
    some_from_find : (found : Option TempItem) → (found ≡ None → ⊥) → is_some found ≡ true
    some_from_find None some = absurd (some refl)
    some_from_find (Some other) some = refl

pub owner_live : (m : List Statement) (o : Overlay) (id : Id) → Contains (owners m o) id → is_live m o id.number ≡ true
owner_live m o id there = elim (among_either (map as_id (equipment m)) (map item_id o.items) id (among_contained (owners m o) id there)) [
  | inl of_model ↦ (let x = map_among as_id (equipment m) id of_model in
      or_right (is_some (item_of o id.number)) (is_equipment m id.number) (ap (is_equipment m) (ap number_of_id (sym x.2)) ∙ among_filter_passes (is_equipment m) (subjects m) x.0 x.1))
  | inr of_item ↦ (let one = map_among item_id o.items id of_item in
      or_left (is_some (item_of o id.number)) (is_equipment m id.number) (some_found id.number o.items one.0 one.1 (ap number_of_id one.2)))
]

some_item : (found : Option TempItem) → is_some found ≡ true → (one : TempItem) × (found ≡ Some one)
some_item None is = absurd cc
some_item (Some one) is = (one, refl)

pub live_owner : (m : List Statement) (o : Overlay) (x : ℕ) → IsKnown m o → is_live m o x ≡ true → Among (owners m o) (as_id x)
live_owner m o x known live = elim (or_cases (is_some (item_of o x)) (is_equipment m x) live) [
  | inl of_item ↦ (let one = some_item (item_of o x) of_item in
      let found = find_among (λ (other : TempItem). item_number other == x) o.items one.0 one.1 in
      among_right (map as_id (equipment m)) (map item_id o.items) (as_id x)
      (subst (Among (map item_id o.items)) (ap as_id (eqb-true (item_number one.0) x found.1)) (among_map item_id o.items one.0 found.0)))
  | inr of_model ↦ among_left (map as_id (equipment m)) (map item_id o.items) (as_id x)
      (among_map as_id (equipment m) x (among_filter (is_equipment m) (subjects m) x (among_contained (subjects m) x ((known.listed x).1 (and_first (is_subject m x) _ of_model))) of_model))
]

-- ---- places

own_side : (one : TempItem) (place : Anchor) → Among (own_places one) place → (number : ℕ) × (place ≡ anchor.Side (item_id one) number)
own_side (item.Cut id segment length is_open) place (inl is) = (1, sym is)
own_side (item.Cut id segment length is_open) place (inr (inl is)) = (2, sym is)
own_side (item.Cut id segment length is_open) place (inr (inr there)) = absurd there
own_side (item.Clamp id segment length) place (inl is) = (1, sym is)
own_side (item.Clamp id segment length) place (inr there) = absurd there
own_side (item.Jumper id first second phases is_open) place there = absurd there
own_side (item.Ground id at phases) place there = absurd there

own_distinct : (one : TempItem) → IsDistinct same_anchor (own_places one)
unfolding IsDistinct
own_distinct (item.Cut id segment length is_open) = ((rw (equal_itself id.number) refl, tt), (tt, tt))
own_distinct (item.Clamp id segment length) = (tt, tt)
own_distinct (item.Jumper id first second phases is_open) = tt
own_distinct (item.Ground id at phases) = tt

sides_apart : (i j : Id) (a b : ℕ) → nat_eq i.number j.number ≡ false → same_anchor (anchor.Side i a) (anchor.Side j b) ≡ false
sides_apart i j a b apart = ap (λ (same : Bool). same && (a == b)) apart

distinct_sides : (items : List TempItem) → IsDistinct nat_eq (map item_number items) → IsDistinct same_anchor (flat_map own_places items)
unfolding IsDistinct
distinct_sides [] distinct = tt
distinct_sides (one ∷ items) distinct =
    distinct_append same_anchor (own_places one) (flat_map own_places items) (own_distinct one) (distinct_sides items distinct.1)
    (λ a b here there.
    let from = flat_map_among own_places items b there in
    let first = own_side one a here in
    let second = own_side from.0 b from.2 in
    rw (first.1, second.1) (sides_apart (item_id one) (item_id from.0) first.0 second.0 (each_read (λ n. nat_eq (item_number one) n ≡ false) item_number items from.0 distinct.0 from.1)))

distinct_nodes : (ns : List ℕ) → IsDistinct nat_eq ns → IsDistinct same_anchor (map at_node ns)
unfolding IsDistinct
distinct_nodes [] distinct = tt
distinct_nodes (n ∷ ns) distinct = (apart_nodes ns distinct.0, distinct_nodes ns distinct.1)
  where
    apart_nodes : (ks : List ℕ) → AllByRecursion (λ k. nat_eq n k ≡ false) ks → AllByRecursion (λ place. same_anchor (at_node n) place ≡ false) (map at_node ks)
    apart_nodes [] all = tt
    apart_nodes (k ∷ ks) all = (all.0, apart_nodes ks all.1)

pub distinct_places : (m : List Statement) (o : Overlay) → IsKnown m o → IsDistinct same_anchor (places m o)
distinct_places m o known =
    distinct_append same_anchor (map at_node (nodes m)) (flat_map own_places o.items) (distinct_nodes (nodes m) (distinct_filter nat_eq (is_of m is_node) (subjects m) known.once))
    (distinct_sides o.items known.stands.identifiers)
    (λ a b here there.
    let n = map_among at_node (nodes m) a here in
    let from = flat_map_among own_places o.items b there in
    let side = own_side from.0 b from.2 in
    subst (λ (a : Anchor). same_anchor a b ≡ false) n.2 (subst (λ (b : Anchor). same_anchor (at_node n.0) b ≡ false) (sym side.1) refl))

-- they are the nodes and the sides of cuts and clamps
made : (m : List Statement) (o : Overlay) (one : TempItem) (place : Anchor) (number : ℕ) → IsKnown m o → Among o.items one → Among (own_places one) place → place ≡ anchor.Side (item_id one) number → is_place m o place ≡ true
made m o one place number known there own is =
    subst (λ (place : Anchor). is_place m o place ≡ true) (sym is)
    (among_any (makes (anchor.Side (item_id one) number)) o.items one there
    (among_any (same_anchor (anchor.Side (item_id one) number)) (own_places one) (anchor.Side (item_id one) number) (subst (Among (own_places one)) is own) ((known.equal (anchor.Side (item_id one) number) (anchor.Side (item_id one) number)).1 refl)))

pub place_is : (m : List Statement) (o : Overlay) (place : Anchor) → IsKnown m o → Contains (places m o) place → is_place m o place ≡ true
place_is m o place known there = elim (among_either (map at_node (nodes m)) (flat_map own_places o.items) place (among_contained (places m o) place there)) [
  | inl of_model ↦ (let n = map_among at_node (nodes m) place of_model in
      subst (λ (place : Anchor). is_place m o place ≡ true) n.2 (among_filter_passes (is_of m is_node) (subjects m) n.0 n.1))
  | inr of_item ↦ (let from = flat_map_among own_places o.items place of_item in let side = own_side from.0 place from.2 in made m o from.0 place side.0 known from.1 from.2 side.1)
]

pub is_listed : (m : List Statement) (o : Overlay) (place : Anchor) → IsKnown m o → is_place m o place ≡ true → Among (places m o) place
is_listed m o (anchor.Node n) known is =
    among_left (map at_node (nodes m)) (flat_map own_places o.items) (anchor.Node n)
    (among_map at_node (nodes m) n.number (among_filter (is_of m is_node) (subjects m) n.number (among_contained (subjects m) n.number ((known.listed n.number).1 (known.classed n.number is_node is))) is))
is_listed m o (anchor.Side id number) known is =
    let one = any_among (makes (anchor.Side id number)) o.items is in
    let place = any_among (same_anchor (anchor.Side id number)) (own_places one.0) one.2 in
    among_right (map at_node (nodes m)) (flat_map own_places o.items) (anchor.Side id number)
    (among_flat_map own_places o.items one.0 (anchor.Side id number) one.1 (subst (Among (own_places one.0)) (sym ((known.equal (anchor.Side id number) place.0).0 place.2)) place.1))
