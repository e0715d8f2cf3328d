-- The lines of the segments of a live network in its graph, and the phases that terminals have.
use Rattle.std.proofs.Common.{◌≡◌, ◌⊎◌, ℕ, inl, inr, List, map, Bool, true, false, cond, Option, Some, None, option_map, unwrap_or, refl, ap, sym, ◌∙◌, subst}
use Rattle.std.specs.List.{filter_map}
use Rattle.std.proofs.lemmas.Option.{none-some, same_Some}
use Rattle.link_rules.proofs.LineTerms.{marks_of_mark_terms}
use Rattle.cim_model.specs.Live.{Conduction, PassesAll, PassesAlong, PassesNothing, PassesSwitched, PassesTransformed, conduction, is_term, item_segment_number, side_phases, stands_on, stated_phases, term_phases}
use Rattle.cim_model.specs.Marks.{marks_on}
use Rattle.cim_model.specs.Network.{segment_of, segment_phases}
use Rattle.cim_model.specs.Phases.{no_phases}
use Rattle.cim_model.specs.Sections.{term_at}
use Rattle.cim_model.specs.Values.{as_id}
use Rattle.cim_words.specs.PhaseNames.{and_then}
use Rattle.cim_words.specs.declared.identifier.Id.{Id}
use Rattle.cim_words.specs.declared.statement.Statement.{Statement}
use Rattle.graph_pages.specs.Graph.{GraphView, star_of}
use Rattle.graph_pages.specs.Walks as graph
use Rattle.graph_pages.specs.Walks.{Line, line_at, line_in, line_of, line_on, own_or_on, phases_at, spoke_phases}
use Rattle.graph_pages.specs.declared.star.Pass.{Pass}
use Rattle.graph_pages.specs.declared.star.SpokePhases.TheVariants as phases
use Rattle.graph_pages.specs.declared.star.Star.{Star}
use Rattle.link_rules.specs.Inputs.{IsPassBy, IsStar, inputs, listed_phases, side_listed, spoke, spot_term}
use Rattle.room_words.specs.Overlay.{item_of}
use Rattle.room_words.specs.declared.items.TempItem.{TempItem}
use Rattle.room_words.specs.declared.items.TempItem.TheVariants as item
use Rattle.room_words.specs.declared.overlay.Overlay.{Overlay}
use Rattle.room_words.specs.declared.term.Term.{Term}
use Rattle.room_words.specs.declared.term.TermKey.{TermKey}
use Rattle.room_words.specs.declared.term.TermKey.TheVariants as key
use Rattle.segment_cuts.specs.Sections.{AreSections}
use Rattle.segment_cuts.specs.declared.mark.Mark.{Mark}
use Rattle.segment_cuts.specs.declared.mark.Spot.{Spot}
use Rattle.topology.proofs.Entries.{IsGraphOf, has_star, owner_star, spoke_is, star_found}

-- a line is that of a segment: in its phases, with the terminals at the spots of its sections
pub record IsLineOf (m : List Statement) (o : Overlay) (x : ℕ) (found : Line) : Type 0 where
  pub along : conduction m o x ≡ PassesAlong
  pub sections : List (List Spot)
  pub are : AreSections (marks_on m o x) sections
  pub phases : found.phases ≡ segment_phases m x
  pub lists : found.sections ≡ map (filter_map (term_at m o x)) sections

-- ---- the line of a star

-- a star that conducts along a line has that of its segment, and no other star has one
line_passed : (m : List Statement) (o : Overlay) (g : GraphView) (x : ℕ) (pass : Pass) (how : Conduction) → IsGraphOf m o g → conduction m o x ≡ how → IsPassBy how (inputs m o x) pass
    → (how ≡ PassesAlong × ((found : Line) × (line_in pass ≡ Some found) × IsLineOf m o x found)) ⊎ (line_in pass ≡ None)
line_passed m o g x pass PassesNothing of_network is by = inr (ap line_in by)
line_passed m o g x pass PassesSwitched of_network is by = inr (ap line_in by)
line_passed m o g x pass PassesAll of_network is by = inr (ap line_in by)
line_passed m o g x pass PassesTransformed of_network is by = inr (ap line_in by)
line_passed m o g x pass PassesAlong of_network is (sections, are, by) =
    let own = subst (λ (marks : List Mark). AreSections marks sections) (marks_of_mark_terms m o (marks_on m o x)) are in
    inl (
      refl,
      (
        record { phases = segment_phases m x; sections = map (filter_map (spot_term (inputs m o x))) sections },
        ap line_in by,
        record { along = is; sections = sections; are = own; phases = refl; lists = of_network.lists x sections own },
      ),
    )

pub star_line : (m : List Statement) (o : Overlay) (g : GraphView) (x : ℕ) (star : Star) → IsGraphOf m o g → IsStar x (inputs m o x) star
    → ((conduction m o x ≡ PassesAlong) × ((found : Line) × (line_in star.pass ≡ Some found) × IsLineOf m o x found)) ⊎ (line_in star.pass ≡ None)
star_line m o g x star of_network is = line_passed m o g x star.pass (conduction m o x) of_network refl is.pass

-- where a star has a line it is that of its segment
pub line_is : (m : List Statement) (o : Overlay) (g : GraphView) (x : ℕ) (star : Star) (found : Line) → IsGraphOf m o g → IsStar x (inputs m o x) star → line_in star.pass ≡ Some found → IsLineOf m o x found
line_is m o g x star found of_network is has = elim (star_line m o g x star of_network is) [
  | inl along ↦ subst (IsLineOf m o x) (same_Some along.1.0 found (sym along.1.1 ∙ has)) along.1.2
  | inr none ↦ absurd (none-some found (sym none ∙ has))
]

-- a segment has its line
not_along : (m : List Statement) (o : Overlay) (x : ℕ) (pass : Pass) (how : Conduction) → how ≡ PassesAlong → IsPassBy how (inputs m o x) pass → line_in pass ≡ None → ⊥
not_along m o x pass PassesNothing is by none = cc
not_along m o x pass PassesSwitched is by none = cc
not_along m o x pass PassesAll is by none = cc
not_along m o x pass PassesTransformed is by none = cc
not_along m o x pass PassesAlong is (sections, are, by) none = none-some _ (sym none ∙ ap line_in by)

pub own_line : (m : List Statement) (o : Overlay) (g : GraphView) (x : ℕ) (star : Star) → IsGraphOf m o g → IsStar x (inputs m o x) star → conduction m o x ≡ PassesAlong
    → (found : Line) × (line_in star.pass ≡ Some found) × IsLineOf m o x found
own_line m o g x star of_network is along = elim (star_line m o g x star of_network is) [
  | inl has ↦ has.1
  | inr none ↦ absurd (not_along m o x star.pass (conduction m o x) along is.pass none)
]

pub line_of_segment : (m : List Statement) (o : Overlay) (g : GraphView) (x : ℕ) → IsGraphOf m o g → conduction m o x ≡ PassesAlong → (found : Line) × (line_of g x ≡ Some found) × IsLineOf m o x found
line_of_segment m o g x of_network along =
    let here = has_star m o g x of_network (of_network.lines x along).0 in
    let own = own_line m o g x here.star of_network here.is along in
    (own.0, ap (λ (found : Option Star). and_then found (λ (star : Star). line_in star.pass)) here.found ∙ own.1, own.2)

-- ---- the line on which a terminal stands

-- an owner is a segment, or stands on it
abbrev pub IsAlong : List Statement → Overlay → ℕ → ℕ → Type 0
IsAlong m o x y = (y ≡ x) ⊎ (stands_on m o y ≡ Some x)

no_own_line : (m : List Statement) (o : Overlay) (g : GraphView) (x y : ℕ) (star : Star) → IsGraphOf m o g → IsStar y (inputs m o y) star → stands_on m o y ≡ Some x → line_in star.pass ≡ None
no_own_line m o g x y star of_network is on = elim (star_line m o g y star of_network is) [
  | inl along ↦ absurd (none-some x (sym (of_network.lines y along.0).1 ∙ on))
  | inr none ↦ none
]

pub line_along : (m : List Statement) (o : Overlay) (g : GraphView) (x : ℕ) (t : Term) → IsGraphOf m o g → conduction m o x ≡ PassesAlong → is_term m o t ≡ true → IsAlong m o x t.owner.number
    → (found : Line) × (line_at g t ≡ Some found) × IsLineOf m o x found
line_along m o g x t of_network along term (inl same) =
    let here = owner_star m o g t of_network term in
    let is : IsStar x (inputs m o x) here.star = subst (λ (y : ℕ). IsStar y (inputs m o y) here.star) same here.is in
    let own = own_line m o g x here.star of_network is along in
    (own.0, ap (λ (found : Option Star). and_then found (λ (star : Star). own_or_on g star (line_in star.pass))) here.found ∙ ap (own_or_on g here.star) own.1, own.2)
line_along m o g x t of_network along term (inr on) =
    let here = owner_star m o g t of_network term in
    let segment = line_of_segment m o g x of_network along in (
      segment.0,
      ap (λ (found : Option Star). and_then found (λ (star : Star). own_or_on g star (line_in star.pass))) here.found
          ∙ ap (own_or_on g here.star) (no_own_line m o g x t.owner.number here.star of_network here.is on)
          ∙ ap (line_on g) here.is.on
          ∙ ap (λ (found : Option ℕ). line_on g (option_map as_id found)) on
          ∙ segment.1,
      segment.2,
    )

-- ---- each line on which a terminal stands is that of a segment

line_on_is : (m : List Statement) (o : Overlay) (g : GraphView) (on : Option Id) (found : Line) → IsGraphOf m o g → line_on g on ≡ Some found → (x : ℕ) × IsLineOf m o x found
line_on_is m o g None found of_network is = absurd cc
line_on_is m o g (Some id) found of_network is =
    let star = some_and_then (star_of g id.number) found is in
    (id.number, line_is m o g id.number star.0 found of_network (star_found m o g id.number star.0 of_network star.1) star.2)
  where
    some_and_then : (found : Option Star) (one : Line) → and_then found (λ (star : Star). line_in star.pass) ≡ Some one → (star : Star) × (found ≡ Some star) × (line_in star.pass ≡ Some one)
    some_and_then None one is = absurd cc
    some_and_then (Some star) one is = (star, refl, is)

own_or_on_is : (m : List Statement) (o : Overlay) (g : GraphView) (y : ℕ) (star : Star) (own : Option Line) (found : Line) → IsGraphOf m o g → IsStar y (inputs m o y) star → line_in star.pass ≡ own
    → own_or_on g star own ≡ Some found → (x : ℕ) × IsLineOf m o x found
own_or_on_is m o g y star (Some own) found of_network is has same = (y, line_is m o g y star found of_network is (has ∙ same))
own_or_on_is m o g y star None found of_network is has same = line_on_is m o g star.on found of_network same

line_at_if : (m : List Statement) (o : Overlay) (g : GraphView) (y : ℕ) (star : Option Star) (found : Line) → IsGraphOf m o g → star_of g y ≡ star
    → and_then star (λ (star : Star). own_or_on g star (line_in star.pass)) ≡ Some found → (x : ℕ) × IsLineOf m o x found
line_at_if m o g y None found of_network at is = absurd cc
line_at_if m o g y (Some star) found of_network at is = own_or_on_is m o g y star (line_in star.pass) found of_network (star_found m o g y star of_network at) refl is

pub line_at_is : (m : List Statement) (o : Overlay) (g : GraphView) (t : Term) (found : Line) → IsGraphOf m o g → line_at g t ≡ Some found → (x : ℕ) × IsLineOf m o x found
line_at_is m o g t found of_network is = line_at_if m o g t.owner.number (star_of g t.owner.number) found of_network refl is

-- ---- phases

-- a cut's and a clamp's terminals have the phases of their segment
segment_side : (m : List Statement) (o : Overlay) (g : GraphView) (t : Term) (one : TempItem) (x : ℕ) → IsGraphOf m o g → is_term m o t ≡ true → item_of o t.owner.number ≡ Some one
    → item_segment_number one ≡ Some x → graph.line_phases (line_at g t) ≡ segment_phases m x
segment_side m o g t one x of_network term is on =
    let stands : stands_on m o t.owner.number ≡ Some x = ap (λ (found : Option TempItem). unwrap_or (option_map item_segment_number found) (segment_of m t.owner.number)) is ∙ on in
    let found = line_along m o g x t of_network (of_network.segments x t.owner.number stands) term (inr stands) in
    ap graph.line_phases found.1 ∙ found.2.phases

side_is : (m : List Statement) (o : Overlay) (g : GraphView) (t : Term) (one : TempItem) → IsGraphOf m o g → is_term m o t ≡ true → item_of o t.owner.number ≡ Some one
    → spoke_phases g t (side_listed one) ≡ side_phases m one
side_is m o g t (item.Cut id segment length is_open) of_network term is = segment_side m o g t (item.Cut id segment length is_open) segment.number of_network term is refl
side_is m o g t (item.Clamp id segment length) of_network term is = segment_side m o g t (item.Clamp id segment length) segment.number of_network term is refl
side_is m o g t (item.Jumper id first second phases is_open) of_network term is = refl
side_is m o g t (item.Ground id at phases) of_network term is = refl

item_is : (m : List Statement) (o : Overlay) (g : GraphView) (t : Term) (found : Option TempItem) → IsGraphOf m o g → is_term m o t ≡ true → item_of o t.owner.number ≡ found
    → spoke_phases g t (unwrap_or (option_map side_listed found) (phases.Own no_phases)) ≡ unwrap_or (option_map (side_phases m) found) no_phases
item_is m o g t None of_network term is = refl
item_is m o g t (Some one) of_network term is = side_is m o g t one of_network term is

key_is : (m : List Statement) (o : Overlay) (g : GraphView) (t : Term) (k : TermKey) → IsGraphOf m o g → is_term m o t ≡ true → spoke_phases g t (listed_phases m o t k) ≡ stated_phases m o t k
key_is m o g t (key.Real u) of_network term = refl
key_is m o g t (key.Side number) of_network term = item_is m o g t (item_of o t.owner.number) of_network term refl

phases_if : (m : List Statement) (o : Overlay) (g : GraphView) (t : Term) (b : Bool) → (b ≡ true → spoke_phases g t (listed_phases m o t t.key) ≡ stated_phases m o t t.key)
    → graph.listed_phases g (cond b (Some (spoke m o t)) None) ≡ cond b (stated_phases m o t t.key) no_phases
phases_if m o g t true same = same refl
phases_if m o g t false same = refl

-- a terminal has in the graph the phases that it has in the network
pub phases_are : (m : List Statement) (o : Overlay) (g : GraphView) (t : Term) → IsGraphOf m o g → phases_at g t ≡ term_phases m o t
phases_are m o g t of_network = ap (graph.listed_phases g) (spoke_is m o g t of_network) ∙ phases_if m o g t (is_term m o t) (λ term. key_is m o g t t.key of_network term)
