-- The terminals at the spots of a segment, and how the lines of its graph list them.
use Rattle.std.proofs.Common.{◌≡◌, ℕ, inl, inr, List, [], ◌∷◌, map, true, false, Some, Contains, refl, sym, subst}
use Rattle.std.specs.List.{filter_map}
use Rattle.std.proofs.lemmas.Option.{same_Some}
use Rattle.cim_model.proofs.SaidLemmas.{first_among}
use Rattle.plain_laws.proofs.Members.{Among, among_contained, among_filter_map, among_flat_map, among_map, contains_among, filter_map_among, map_among}
use Rattle.cim_model.specs.Live.{is_term, terms_of}
use Rattle.cim_model.specs.Marks.{marks_on}
use Rattle.cim_model.specs.Sections.{StandsAtSpot, of_side, second, spot_owner, term_at}
use Rattle.cim_words.specs.declared.statement.Statement.{Statement}
use Rattle.graph_pages.specs.Graph.{GraphView}
use Rattle.graph_pages.specs.Walks.{Line}
use Rattle.room_words.specs.declared.overlay.Overlay.{Overlay}
use Rattle.room_words.specs.declared.term.Term.{Term}
use Rattle.segment_cuts.specs.Sections.{IsOn, all_spots}
use Rattle.segment_cuts.specs.declared.mark.Spot.{Spot}
use Rattle.segment_cuts.specs.declared.mark.Spot.TheVariants.{EndOne, EndTwo, Clamp, CutOne, CutTwo}
use Rattle.topology.proofs.Entries.{IsGraphOf}
use Rattle.topology.proofs.Lines.{IsAlong, IsLineOf}

-- ---- the terminal at a spot is one of the spot's owner, which is along the segment

second_among : {X : Type 0} (xs : List X) (x : X) → second xs ≡ Some x → Among xs x
second_among [] x is = absurd cc
second_among (y ∷ []) x is = absurd cc
second_among (y ∷ z ∷ xs) x is = inr (inl (same_Some z x is))

side_among : {X : Type 0} (s : Spot) (xs : List X) (x : X) → of_side s xs ≡ Some x → Among xs x
side_among EndOne xs x is = first_among xs x is
side_among EndTwo xs x is = second_among xs x is
side_among (Clamp id) xs x is = first_among xs x is
side_among (CutOne id) xs x is = first_among xs x is
side_among (CutTwo id) xs x is = second_among xs x is

pub spot_term_is : (m : List Statement) (o : Overlay) (g : GraphView) (x : ℕ) (t : Term) (s : Spot) → IsGraphOf m o g → StandsAtSpot m o x t s → (is_term m o t ≡ true) × (t.owner.number ≡ spot_owner x s)
spot_term_is m o g x t s of_network stands =
    (of_network.terminals (spot_owner x s) t).0 (contains_among (terms_of m o (spot_owner x s)) t (side_among s (terms_of m o (spot_owner x s)) t stands.terminal))

spot_along : (m : List Statement) (o : Overlay) (g : GraphView) (x : ℕ) (s : Spot) → IsGraphOf m o g → IsOn (marks_on m o x) s → IsAlong m o x (spot_owner x s)
spot_along m o g x EndOne of_network on = inl refl
spot_along m o g x EndTwo of_network on = inl refl
spot_along m o g x (Clamp id) of_network on = inr (of_network.marks x id false on)
spot_along m o g x (CutOne id) of_network on = inr (of_network.marks x id true on)
spot_along m o g x (CutTwo id) of_network on = inr (of_network.marks x id true on)

pub term_along : (m : List Statement) (o : Overlay) (g : GraphView) (x : ℕ) (t : Term) (s : Spot) → IsGraphOf m o g → StandsAtSpot m o x t s → IsAlong m o x t.owner.number
term_along m o g x t s of_network stands = subst (IsAlong m o x) (sym (spot_term_is m o g x t s of_network stands).1) (spot_along m o g x s of_network stands.on)

-- ---- lists of terminals and lists of spots

pub section_listed : (m : List Statement) (o : Overlay) (x : ℕ) (found : Line) (spots : List Spot) (here : IsLineOf m o x found) → Contains here.sections spots → Contains found.sections (filter_map (term_at m o x) spots)
section_listed m o x found spots here there =
    subst (λ (sections : List (List Term)). Contains sections (filter_map (term_at m o x) spots)) (sym here.lists)
    (contains_among _ (filter_map (term_at m o x) spots) (among_map (filter_map (term_at m o x)) here.sections spots (among_contained here.sections spots there)))

pub spots_of : (m : List Statement) (o : Overlay) (x : ℕ) (found : Line) (section : List Term) (here : IsLineOf m o x found) → Contains found.sections section
    → (spots : List Spot) × Contains here.sections spots × (filter_map (term_at m o x) spots ≡ section)
spots_of m o x found section here there =
    let own : Contains (map (filter_map (term_at m o x)) here.sections) section = subst (λ (sections : List (List Term)). Contains sections section) here.lists there in
    let from = map_among (filter_map (term_at m o x)) here.sections section (among_contained _ section own) in
    (from.0, contains_among here.sections from.0 from.1, from.2)

pub term_listed : (m : List Statement) (o : Overlay) (x : ℕ) (t : Term) (s : Spot) (spots : List Spot) → Contains spots s → StandsAtSpot m o x t s → Contains (filter_map (term_at m o x) spots) t
term_listed m o x t s spots there stands = contains_among _ t (among_filter_map (term_at m o x) spots s t (among_contained spots s there) stands.terminal)

-- a terminal that a section lists stands at one of its spots
pub spot_of : (m : List Statement) (o : Overlay) (x : ℕ) (t : Term) (found : Line) (here : IsLineOf m o x found) (spots : List Spot) → Contains here.sections spots
    → Contains (filter_map (term_at m o x) spots) t → (s : Spot) × Contains spots s × StandsAtSpot m o x t s
spot_of m o x t found here spots there listed =
    let from = filter_map_among (term_at m o x) spots t (among_contained _ t listed) in
    let has = among_flat_map (λ (spots : List Spot). spots) here.sections spots from.0 (among_contained here.sections spots there) from.1 in
    (from.0, contains_among spots from.0 from.1, record { on = (here.are.complete from.0).0 (contains_among (all_spots here.sections) from.0 has); terminal = from.2 })
