-- The terminals of a live network: each belongs to its owner, which is equipment or an item, and where they stand.
use Rattle.std.proofs.Common.{◌≡◌, ◌↔◌, ℕ, List, map, true, ◌||◌, IsTrue, Option, Some, None, is_some, option_map, unwrap_or, refl, ap, sym, ◌∙◌, subst, inl, inr, Bool, false, cond, find}
use Rattle.std.specs.List.{flat_map}
use Rattle.std.proofs.lemmas.Option.{same_Some}
use Rattle.room_words.specs.declared.term.TermKey.{TermKey}
use Rattle.room_words.specs.declared.anchor.Anchor.{Anchor}
use Rattle.cim_model.specs.Values.{as_id}
use Rattle.cim_model.specs.Stated.{terminals_at}
use Rattle.cim_words.specs.PhaseNames.{and_then}
use Rattle.plain_laws.proofs.Members.{Among, among_either, among_filter, among_filter_map, among_filter_passes, among_flat_map, among_left, among_map, among_right, filter_among, filter_map_among, flat_map_among, map_among}
use Rattle.plain_laws.proofs.Options.{find_among}
use Rattle.plain_laws.proofs.Tests.{among_any, any_among}
use Rattle.cim_words.specs.declared.statement.Statement.{Statement}
use Rattle.cim_model.specs.Live.{at_node, is_live, is_place, is_term, owned, place_of, real, real_terms_at, stated_place, terms_at, terms_of}
use Rattle.cim_model.specs.Network.{is_equipment, node_of, owner_of, terminals_by_side}
use Rattle.cim_model.proofs.FaultlessTerminals.{listed_is_standing, node_is, owner_equipment, owner_subject, standing_is_listed}
use Rattle.cim_model.proofs.ItemSides.{IsSideOf, item_term_side, no_node_made, standing_at, standing_states_place}
use Rattle.cim_model.proofs.OverlayItems.{IsLive, found_item_is_listed, item_found, item_stands, no_item, says_item, says_other}
use Rattle.cim_model.proofs.TerminalSides.{owned_side, side_owned}
use Rattle.room_words.specs.Items.{item_number, item_place, item_terms, item_terms_at, makes, standing, term_in}
use Rattle.room_words.specs.Overlay.{item_of}
use Rattle.room_words.specs.Terms.{same_anchor, same_term}
use Rattle.room_words.specs.declared.items.TempItem.{TempItem}
use Rattle.room_words.specs.declared.overlay.Overlay.{Overlay}
use Rattle.room_words.specs.declared.term.Term.{Term}
use Rattle.room_words.specs.declared.anchor.Anchor.TheVariants as anchor
use Rattle.room_words.specs.declared.term.TermKey.TheVariants as key

-- ---- whose a listed terminal is

listed_if : (m : List Statement) (x : ℕ) (t : Term) (found : Option TempItem) → ((one : TempItem) → found ≡ Some one → item_number one ≡ x)
    → Among (unwrap_or (option_map item_terms found) (map (real x) (terminals_by_side m x))) t → t.owner.number ≡ x
listed_if m x t None named there = let u = map_among (real x) (terminals_by_side m x) t there in ap (λ (t : Term). t.owner.number) (sym u.2)
listed_if m x t (Some one) named there = ap (λ (id : _). id.number) (item_term_side one t there).owner ∙ named one refl

pub listed_owner : (m : List Statement) (o : Overlay) (x : ℕ) (t : Term) → Among (terms_of m o x) t → t.owner.number ≡ x
listed_owner m o x t there = listed_if m x t (item_of o x) (λ one is. (found_item_is_listed o x one is).1) there

-- the terminals of a network are those that their owners list
pub term_listed : (m : List Statement) (o : Overlay) (t : Term) → ((t u : Term) → IsTrue (same_term t u) ↔ (t ≡ u)) → is_term m o t ≡ true → Among (terms_of m o t.owner.number) t
term_listed m o t apart is =
    let u = any_among (λ (u : Term). same_term u t) (terms_of m o t.owner.number) is in
    subst (Among (terms_of m o t.owner.number)) ((apart u.0 t).0 u.2) u.1

pub listed_term : (m : List Statement) (o : Overlay) (x : ℕ) (t : Term) → ((t u : Term) → IsTrue (same_term t u) ↔ (t ≡ u)) → Among (terms_of m o x) t → is_term m o t ≡ true
listed_term m o x t apart there =
    let own : Among (terms_of m o t.owner.number) t = subst (λ (y : ℕ). Among (terms_of m o y) t) (sym (listed_owner m o x t there)) there in
    among_any (λ (u : Term). same_term u t) (terms_of m o t.owner.number) t own ((apart t t).1 refl)

-- ---- terminals of the model and of items

pub item_listed : (m : List Statement) (o : Overlay) (x : ℕ) (one : TempItem) (t : Term) → item_of o x ≡ Some one → Among (item_terms one) t → Among (terms_of m o x) t
item_listed m o x one t is there = subst (λ (terms : List Term). Among terms t) (sym (says_item o x one item_terms (map (real x) (terminals_by_side m x)) is)) there

pub real_listed : (m : List Statement) (o : Overlay) (x t : ℕ) → IsLive m o → owner_of m t ≡ Some x → Among (terms_of m o x) (real x t)
real_listed m o x t live owned =
    subst (λ (terms : List Term). Among terms (real x t)) (sym (says_other o x item_terms (map (real x) (terminals_by_side m x)) (no_item m o x live (owner_subject m x t live.faultless owned))))
    (among_map (real x) (terminals_by_side m x) t (owned_side m x t live.faultless owned))

-- ---- their owners are live

owner_live_if : (m : List Statement) (o : Overlay) (x : ℕ) (t : Term) (found : Option TempItem) → IsLive m o
    → Among (unwrap_or (option_map item_terms found) (map (real x) (terminals_by_side m x))) t → (is_some found || is_equipment m x) ≡ true
owner_live_if m o x t None live there =
    let u = map_among (real x) (terminals_by_side m x) t there in
    owner_equipment m x u.0 live.faultless (side_owned m x u.0 live.faultless u.1)
owner_live_if m o x t (Some one) live there = refl

pub owner_live : (m : List Statement) (o : Overlay) (t : Term) → IsLive m o → is_term m o t ≡ true → is_live m o t.owner.number ≡ true
owner_live m o t live is = owner_live_if m o t.owner.number t (item_of o t.owner.number) live (term_listed m o t live.terms is)

-- ---- where terminals stand

-- ---- a terminal of the network stands where its key says

pub placed : (m : List Statement) (o : Overlay) (t : Term) → is_term m o t ≡ true → place_of m o t ≡ stated_place m o t t.key
placed m o t is = rw is refl

placed_if : (b : Bool) (stated : Option Anchor) (place : Anchor) → cond b stated None ≡ Some place → (b ≡ true) × (stated ≡ Some place)
placed_if true stated place is = (refl, is)
placed_if false stated place is = absurd cc

pub stated : (m : List Statement) (o : Overlay) (t : Term) (place : Anchor) → place_of m o t ≡ Some place → (is_term m o t ≡ true) × (stated_place m o t t.key ≡ Some place)
stated m o t place is = placed_if (is_term m o t) (stated_place m o t t.key) place is

-- ---- from the list to the place

real_at : (m : List Statement) (o : Overlay) (n u : ℕ) (t : Term) (owner : Option ℕ) → IsLive m o → node_of m u ≡ Some n → owner_of m u ≡ owner → option_map (λ (y : ℕ). real y u) owner ≡ Some t
    → place_of m o t ≡ Some (at_node n)
real_at m o n u t None live at owned is = absurd cc
real_at m o n u t (Some y) live at owned is =
    subst (λ (t : Term). place_of m o t ≡ Some (at_node n)) (same_Some (real y u) t is)
    (placed m o (real y u) (listed_term m o y (real y u) live.terms (real_listed m o y u live owned)) ∙ ap (option_map at_node) at)

real_placed : (m : List Statement) (o : Overlay) (place : Anchor) (t : Term) → IsLive m o → Among (real_terms_at m place) t → place_of m o t ≡ Some place
real_placed m o (anchor.Node n) t live there =
    let u = filter_map_among (owned m) (terminals_at m n.number) t there in
    real_at m o n.number u.0 t (owner_of m u.0) live (listed_is_standing m n.number u.0 live.faultless u.1) refl u.2
real_placed m o (anchor.Side id number) t live there = absurd there

side_stated : (m : List Statement) (o : Overlay) (one : TempItem) (t : Term) (place : Anchor) → item_of o t.owner.number ≡ Some one → IsSideOf one t → item_place one t ≡ Some place
    → stated_place m o t t.key ≡ Some place
side_stated m o one t place is side at =
    ap (stated_place m o t) side.key ∙ ap (λ (found : Option TempItem). and_then found (λ (one : TempItem). item_place one t)) is ∙ at

item_placed : (m : List Statement) (o : Overlay) (place : Anchor) (one : TempItem) (t : Term) → IsLive m o → Among o.items one → Among (item_terms_at place one) t → place_of m o t ≡ Some place
item_placed m o place one t live there at =
    let s = map_among term_in _ t at in
    let listed = filter_among (λ (s : Anchor × Term). same_anchor s.0 place) (standing one) s.0 s.1 in
    let here : s.0.0 ≡ place = (live.places s.0.0 place).0 (among_filter_passes (λ (s : Anchor × Term). same_anchor s.0 place) (standing one) s.0 s.1) in
    let own : Among (item_terms one) t = subst (Among (item_terms one)) s.2 (among_map term_in (standing one) s.0 listed) in
    let side = item_term_side one t own in
    let is : item_of o t.owner.number ≡ Some one = ap (λ (id : _). item_of o id.number) side.owner ∙ item_found m o one live there in
    let at_place : item_place one t ≡ Some place = subst (λ (t : Term). item_place one t ≡ Some place) s.2 (standing_states_place one s.0 listed ∙ ap (λ (p : Anchor). Some p) here) in
    placed m o t (listed_term m o t.owner.number t live.terms (item_listed m o t.owner.number one t is own)) ∙ side_stated m o one t place is side at_place

pub listed_placed : (m : List Statement) (o : Overlay) (place : Anchor) (t : Term) → IsLive m o → Among (terms_at m o place) t → place_of m o t ≡ Some place
listed_placed m o place t live there = elim (among_either (real_terms_at m place) (flat_map (item_terms_at place) o.items) t there) [
  | inl real ↦ real_placed m o place t live real
  | inr of_item ↦ (let one = flat_map_among (item_terms_at place) o.items t of_item in item_placed m o place one.0 t live one.1 one.2)
]

-- ---- from the place to the list

-- a side of an item at a place, with the item
pub record IsSideAt (o : Overlay) (t : Term) (place : Anchor) : Type 0 where
  pub one : TempItem
  pub listed : Among o.items one
  pub side : Anchor × Term
  pub stands : Among (standing one) side
  pub at : side.0 ≡ place
  pub term : side.1 ≡ t

place_found : (one : TempItem) (t : Term) (place : Anchor) (found : Option (Anchor × Term)) → option_map (λ (s : Anchor × Term). s.0) found ≡ Some place
    → (s : Anchor × Term) × (found ≡ Some s) × (s.0 ≡ place)
place_found one t place None is = absurd cc
place_found one t place (Some s) is = (s, refl, same_Some s.0 place is)

item_found_at : (found : Option TempItem) (t : Term) (place : Anchor) → and_then found (λ (one : TempItem). item_place one t) ≡ Some place → (one : TempItem) × (found ≡ Some one) × (item_place one t ≡ Some place)
item_found_at None t place is = absurd cc
item_found_at (Some one) t place is = (one, refl, is)

pub side_at : (m : List Statement) (o : Overlay) (t : Term) (number : ℕ) (place : Anchor) → IsLive m o → stated_place m o t (key.Side number) ≡ Some place → IsSideAt o t place
side_at m o t number place live is =
    let one = item_found_at (item_of o t.owner.number) t place is in
    let s = place_found one.0 t place (find (λ (s : Anchor × Term). same_term s.1 t) (standing one.0)) one.2 in
    let there = find_among (λ (s : Anchor × Term). same_term s.1 t) (standing one.0) s.0 s.1 in
    record { one = one.0; listed = (found_item_is_listed o t.owner.number one.0 one.1).0; side = s.0; stands = there.0; at = s.2; term = (live.terms s.0.1 t).0 there.1 }

side_listed : (m : List Statement) (o : Overlay) (place : Anchor) (t : Term) → IsLive m o → IsSideAt o t place → Among (terms_at m o place) t
side_listed m o place t live side =
    let here : same_anchor side.side.0 place ≡ true = (live.places side.side.0 place).1 side.at in
    let kept = among_filter (λ (s : Anchor × Term). same_anchor s.0 place) (standing side.one) side.side side.stands here in
    let own : Among (item_terms_at place side.one) t = subst (Among (item_terms_at place side.one)) side.term (among_map term_in _ side.side kept) in
    among_right (real_terms_at m place) (flat_map (item_terms_at place) o.items) t (among_flat_map (item_terms_at place) o.items side.one t side.listed own)

-- a terminal of the model belongs in the model to its owner
real_key : (u v : ℕ) → key.Real (as_id v) ≡ key.Real (as_id u) → v ≡ u
real_key u v is = let same : as_id v ≡ as_id u = cc in ap (λ (id : _). id.number) same

owned_if : (m : List Statement) (o : Overlay) (x u : ℕ) (t : Term) (found : Option TempItem) → IsLive m o → t.key ≡ key.Real (as_id u)
    → Among (unwrap_or (option_map item_terms found) (map (real x) (terminals_by_side m x))) t → owner_of m u ≡ Some x
owned_if m o x u t None live is there =
    let v = map_among (real x) (terminals_by_side m x) t there in
    let same : v.0 ≡ u = real_key u v.0 (ap (λ (t : Term). t.key) v.2 ∙ is) in
    ap (owner_of m) (sym same) ∙ side_owned m x v.0 live.faultless v.1
owned_if m o x u t (Some one) live is there = absurd (let side = item_term_side one t there in let apart : key.Real (as_id u) ≡ key.Side side.number = sym is ∙ side.key in cc)

pub real_owned : (m : List Statement) (o : Overlay) (u : ℕ) (t : Term) → IsLive m o → t.key ≡ key.Real (as_id u) → is_term m o t ≡ true → owner_of m u ≡ Some t.owner.number
real_owned m o u t live is term = owned_if m o t.owner.number u t (item_of o t.owner.number) live is (term_listed m o t live.terms term)

-- where a node is stated, the place is this node
node_stated : (found : Option ℕ) (place : Anchor) → option_map at_node found ≡ Some place → (n : ℕ) × (found ≡ Some n) × (at_node n ≡ place)
node_stated None place is = absurd cc
node_stated (Some n) place is = (n, refl, same_Some (at_node n) place is)

real_term_is : (t : Term) (u : ℕ) → t.key ≡ key.Real (as_id u) → real t.owner.number u ≡ t
real_term_is t u is = ap (λ (k : TermKey). record { owner = t.owner; key = k }) (sym is)

placed_key : (m : List Statement) (o : Overlay) (place : Anchor) (t : Term) (k : TermKey) → IsLive m o → t.key ≡ k → is_term m o t ≡ true → stated_place m o t k ≡ Some place → Among (terms_at m o place) t
placed_key m o place t (key.Real u) live is term at =
    let n = node_stated (node_of m u.number) place at in
    let owned_so : owned m u.number ≡ Some t = ap (option_map (λ (y : ℕ). real y u.number)) (real_owned m o u.number t live is term) ∙ ap (λ (t : Term). Some t) (real_term_is t u.number is) in
    let at_own : Among (real_terms_at m (at_node n.0)) t = among_filter_map (owned m) (terminals_at m n.0) u.number t (standing_is_listed m n.0 u.number n.1) owned_so in
    among_left (real_terms_at m place) (flat_map (item_terms_at place) o.items) t (subst (λ (p : Anchor). Among (real_terms_at m p) t) n.2 at_own)
placed_key m o place t (key.Side number) live is term at = side_listed m o place t live (side_at m o t number place live at)

pub placed_listed : (m : List Statement) (o : Overlay) (place : Anchor) (t : Term) → IsLive m o → place_of m o t ≡ Some place → Among (terms_at m o place) t
placed_listed m o place t live is = let said = stated m o t place is in placed_key m o place t t.key live refl said.0 said.1

-- ---- what a terminal stands at is a place

made_place : (m : List Statement) (o : Overlay) (place : Anchor) (one : TempItem) → Among o.items one → makes place one ≡ true → is_place m o place ≡ true
made_place m o (anchor.Node n) one there makes_it = absurd (no_node_made one n makes_it)
made_place m o (anchor.Side id number) one there makes_it = among_any (makes (anchor.Side id number)) o.items one there makes_it

place_key : (m : List Statement) (o : Overlay) (place : Anchor) (t : Term) (k : TermKey) → IsLive m o → stated_place m o t k ≡ Some place → is_place m o place ≡ true
place_key m o place t (key.Real u) live at =
    let n = node_stated (node_of m u.number) place at in
    subst (λ (p : Anchor). is_place m o p ≡ true) n.2 (node_is m u.number n.0 live.faultless n.1)
place_key m o place t (key.Side number) live at =
    let side = side_at m o t number place live at in
    elim (standing_at side.one side.side (λ p. (live.places p p).1 refl) side.stands) [
      | inl makes_it ↦ made_place m o place side.one side.listed (subst (λ (p : Anchor). makes p side.one ≡ true) side.at makes_it)
      | inr anchored ↦ subst (λ (p : Anchor). is_place m o p ≡ true) side.at ((item_stands m o side.one live side.listed).places side.side.0 anchored)
    ]

pub stands_at_place : (m : List Statement) (o : Overlay) (place : Anchor) (t : Term) → IsLive m o → place_of m o t ≡ Some place → is_place m o place ≡ true
stands_at_place m o place t live is = place_key m o place t t.key live (stated m o t place is).1
