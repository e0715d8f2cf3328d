-- The terminals of equipment and of items as their stars list them.
use Rattle.std.proofs.Common.{◌≡◌, ℕ, List, [], ◌∷◌, map, option_map, Some, None, refl, ap, sym, ◌∙◌}
use Rattle.std.proofs.lemmas.Simd.{map-map}
use Rattle.plain_laws.proofs.Filters.{map_same_among}
use Rattle.plain_laws.proofs.Members.{Among}
use Rattle.cim_model.specs.Live.{real, stated_place, terms_of}
use Rattle.cim_model.specs.Network.{first, terminals_by_side}
use Rattle.cim_model.specs.Sections.{second}
use Rattle.cim_model.proofs.ItemSides.{standing_states_place, standing_is_side}
use Rattle.cim_model.proofs.OverlayItems.{found_item_is_listed}
use Rattle.cim_words.specs.declared.statement.Statement.{Statement}
use Rattle.graph_pages.specs.declared.star.Spoke.{Spoke}
use Rattle.link_rules.specs.Inputs.{listed_phases, spoke}
use Rattle.link_rules.specs.Parts.{real_spoke, side_spoke}
use Rattle.room_words.specs.Items.{item_number, item_place, item_terms, standing, term_in}
use Rattle.room_words.specs.Overlay.{item_of}
use Rattle.room_words.specs.declared.anchor.Anchor.{Anchor}
use Rattle.room_words.specs.declared.items.TempItem.{TempItem}
use Rattle.room_words.specs.declared.overlay.Overlay.{Overlay}
use Rattle.room_words.specs.declared.term.Term.{Term}
use Rattle.room_words.specs.declared.term.TermKey.{TermKey}
use Rattle.room_words.specs.declared.term.TermKey.TheVariants as key

-- ---- terminals of the model, the first and the second of them

first_map : {X Y : Type 0} (f : X → Y) (xs : List X) → option_map f (first xs) ≡ first (map f xs)
first_map f [] = refl
first_map f (x ∷ xs) = refl

second_map : {X Y : Type 0} (f : X → Y) (xs : List X) → option_map f (second xs) ≡ second (map f xs)
second_map f [] = refl
second_map f (x ∷ []) = refl
second_map f (x ∷ y ∷ xs) = refl

real_terms : (m : List Statement) (o : Overlay) (x : ℕ) → item_of o x ≡ None → terms_of m o x ≡ map (real x) (terminals_by_side m x)
real_terms m o x none = rw none refl

pub real_first : (m : List Statement) (o : Overlay) (x : ℕ) → item_of o x ≡ None → option_map (real x) (first (terminals_by_side m x)) ≡ first (terms_of m o x)
real_first m o x none = first_map (real x) (terminals_by_side m x) ∙ ap first (sym (real_terms m o x none))

pub real_second : (m : List Statement) (o : Overlay) (x : ℕ) → item_of o x ≡ None → option_map (real x) (second (terminals_by_side m x)) ≡ second (terms_of m o x)
real_second m o x none = second_map (real x) (terminals_by_side m x) ∙ ap second (sym (real_terms m o x none))

pub real_spokes : (m : List Statement) (o : Overlay) (x : ℕ) → item_of o x ≡ None → map (real_spoke m x) (terminals_by_side m x) ≡ map (spoke m o) (terms_of m o x)
real_spokes m o x none = sym (map-map (spoke m o) (real x) (terminals_by_side m x)) ∙ ap (map (spoke m o)) (sym (real_terms m o x none))

-- ---- sides of items

abbrev spoke_at : List Statement → Overlay → Term → TermKey → Spoke
spoke_at m o t k = record { term = t; at = stated_place m o t k; phases = listed_phases m o t k }

side_at : (m : List Statement) (o : Overlay) (one : TempItem) (s : Anchor × Term) (number : ℕ) → item_of o s.1.owner.number ≡ Some one → item_place one s.1 ≡ Some s.0 → spoke_at m o s.1 (key.Side number) ≡ side_spoke one s
side_at m o one s number is at = rw (is, at) refl

side_same : (m : List Statement) (o : Overlay) (one : TempItem) (x : ℕ) (s : Anchor × Term) → item_of o x ≡ Some one → Among (standing one) s → side_spoke one s ≡ spoke m o s.1
side_same m o one x s is there =
    let side = standing_is_side one s there in
    let named : item_number one ≡ x = (found_item_is_listed o x one is).1 in
    let own : item_of o s.1.owner.number ≡ Some one = ap (λ (id : _). item_of o id.number) side.owner ∙ ap (item_of o) named ∙ is in
    sym (ap (spoke_at m o s.1) side.key ∙ side_at m o one s side.number own (standing_states_place one s there))

pub side_spokes : (m : List Statement) (o : Overlay) (x : ℕ) (one : TempItem) → item_of o x ≡ Some one → map (side_spoke one) (standing one) ≡ map (spoke m o) (terms_of m o x)
side_spokes m o x one is =
    let terms : terms_of m o x ≡ item_terms one = rw is refl in
    map_same_among (side_spoke one) (λ s. spoke m o (term_in s)) (standing one) (λ s there. side_same m o one x s is there)
    ∙ sym (map-map (spoke m o) term_in (standing one))
    ∙ ap (map (spoke m o)) (sym terms)
