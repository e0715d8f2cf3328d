-- The entries of the graph of a live network, looked up: stars, and the terminals that they list.
use Rattle.std.proofs.Common.{◌≡◌, ◌↔◌, ℕ, List, [], ◌∷◌, map, Bool, true, false, ◌||◌, cond, IsTrue, Option, Some, None, Contains, find, refl, ap, sym, ◌∙◌, subst}
use Rattle.std.specs.List.{filter_map, list_any}
use Rattle.cim_model.specs.Live.{PassesAlong, conduction, is_live, is_place, is_term, place_of, stands_on, stated_place, terms_of}
use Rattle.cim_model.specs.Marks.{marks_on}
use Rattle.cim_model.specs.Sections.{term_at}
use Rattle.cim_words.specs.PhaseNames.{and_then}
use Rattle.cim_words.specs.declared.identifier.Id.{Id}
use Rattle.cim_words.specs.declared.statement.Statement.{Statement}
use Rattle.graph_pages.specs.Graph.{GraphView, star_of}
use Rattle.graph_pages.specs.Walks.{place_at, spoke_of}
use Rattle.graph_pages.specs.declared.star.Spoke.{Spoke}
use Rattle.graph_pages.specs.declared.star.Star.{Star}
use Rattle.link_rules.specs.Inputs.{IsStar, inputs, spoke, spot_term}
use Rattle.link_rules.specs.Map.{IsMap, IsStarAt}
use Rattle.room_words.specs.Terms.{same_term}
use Rattle.room_words.specs.declared.anchor.Anchor.{Anchor}
use Rattle.room_words.specs.declared.overlay.Overlay.{Overlay}
use Rattle.room_words.specs.declared.term.Term.{Term}
use Rattle.segment_cuts.specs.Sections.{AreSections, HasMark}
use Rattle.segment_cuts.specs.declared.mark.Spot.{Spot}

-- the graph of a live network, and what holds of the network
pub record IsGraphOf (m : List Statement) (o : Overlay) (g : GraphView) : Type 0 where
  pub owners : (t : Term) → IsTrue (is_term m o t) → IsTrue (is_live m o t.owner.number)
  pub places : (place : Anchor) (t : Term) → place_of m o t ≡ Some place → IsTrue (is_place m o place)
  pub terminals : (x : ℕ) (t : Term) → Contains (terms_of m o x) t ↔ (IsTrue (is_term m o t) × (t.owner.number ≡ x))
  pub segments : (x y : ℕ) → stands_on m o y ≡ Some x → conduction m o x ≡ PassesAlong
  pub lines : (x : ℕ) → conduction m o x ≡ PassesAlong → IsTrue (is_live m o x) × (stands_on m o x ≡ None)
  pub marks : (x : ℕ) (id : Id) (divides : Bool) → HasMark (marks_on m o x) id divides → stands_on m o id.number ≡ Some x
  pub apart : (t u : Term) → IsTrue (same_term t u) ↔ (t ≡ u)
  pub lists : (x : ℕ) (sections : List (List Spot)) → AreSections (marks_on m o x) sections
      → map (filter_map (spot_term (inputs m o x))) sections ≡ map (filter_map (term_at m o x)) sections
  pub entries : IsMap m o g

-- ---- stars

pub record HasStar (m : List Statement) (o : Overlay) (g : GraphView) (x : ℕ) : Type 0 where
  pub star : Star
  pub found : star_of g x ≡ Some star
  pub is : IsStar x (inputs m o x) star

has_star_if : (m : List Statement) (o : Overlay) (g : GraphView) (x : ℕ) (found : Option Star) → star_of g x ≡ found → IsStarAt m o x found → is_live m o x ≡ true → HasStar m o g x
has_star_if m o g x None is at live = absurd (let both : true ≡ false = sym live ∙ at in cc)
has_star_if m o g x (Some star) is at live = record { star = star; found = is; is = at.1 }

pub has_star : (m : List Statement) (o : Overlay) (g : GraphView) (x : ℕ) → IsGraphOf m o g → is_live m o x ≡ true → HasStar m o g x
has_star m o g x of_network live = has_star_if m o g x (star_of g x) refl (of_network.entries.stars x) live

pub star_found : (m : List Statement) (o : Overlay) (g : GraphView) (x : ℕ) (star : Star) → IsGraphOf m o g → star_of g x ≡ Some star → IsStar x (inputs m o x) star
star_found m o g x star of_network is = let at : IsStarAt m o x (Some star) = subst (IsStarAt m o x) is (of_network.entries.stars x) in at.1

pub owner_star : (m : List Statement) (o : Overlay) (g : GraphView) (t : Term) → IsGraphOf m o g → is_term m o t ≡ true → HasStar m o g t.owner.number
owner_star m o g t of_network is = has_star m o g t.owner.number of_network (of_network.owners t is)

-- ---- a terminal in the star of its owner

find_one : (f : Term → Spoke) (t u : Term) (rest : Option Spoke) (any b : Bool) → (b ≡ true → u ≡ t) → rest ≡ cond any (Some (f t)) None → cond b (Some (f u)) rest ≡ cond (b || any) (Some (f t)) None
find_one f t u rest any true same later = ap (λ (t : Term). Some (f t)) (same refl)
find_one f t u rest any false same later = later

find_term : (m : List Statement) (o : Overlay) (t : Term) (terms : List Term) → ((t u : Term) → IsTrue (same_term t u) ↔ (t ≡ u))
    → find (λ (s : Spoke). same_term s.term t) (map (spoke m o) terms) ≡ cond (list_any (λ (u : Term). same_term u t) terms) (Some (spoke m o t)) None
find_term m o t [] apart = refl
find_term m o t (u ∷ terms) apart =
    find_one (spoke m o) t u (find (λ (s : Spoke). same_term s.term t) (map (spoke m o) terms)) (list_any (λ (u : Term). same_term u t) terms) (same_term u t) (λ is. (apart u t).0 is) (find_term m o t terms apart)

not_listed : (b : Bool) (s : Spoke) → (b ≡ true → ⊥) → None ≡ cond b (Some s) None
not_listed true s never = absurd (never refl)
not_listed false s never = refl

spoke_if : (m : List Statement) (o : Overlay) (g : GraphView) (t : Term) (found : Option Star) → IsGraphOf m o g → star_of g t.owner.number ≡ found
    → and_then found (λ (star : Star). find (λ (s : Spoke). same_term s.term t) star.spokes) ≡ cond (is_term m o t) (Some (spoke m o t)) None
spoke_if m o g t None of_network is =
    let none : IsStarAt m o t.owner.number None = subst (IsStarAt m o t.owner.number) is (of_network.entries.stars t.owner.number) in
    not_listed (is_term m o t) (spoke m o t) (λ term. let both : true ≡ false = sym (of_network.owners t term) ∙ none in cc)
spoke_if m o g t (Some star) of_network is =
    ap (find (λ (s : Spoke). same_term s.term t)) (star_found m o g t.owner.number star of_network is).spokes ∙ find_term m o t (terms_of m o t.owner.number) of_network.apart

pub spoke_is : (m : List Statement) (o : Overlay) (g : GraphView) (t : Term) → IsGraphOf m o g → spoke_of g t ≡ cond (is_term m o t) (Some (spoke m o t)) None
spoke_is m o g t of_network = spoke_if m o g t (star_of g t.owner.number) of_network refl

place_if : (m : List Statement) (o : Overlay) (t : Term) (b : Bool) → and_then (cond b (Some (spoke m o t)) None) (λ (s : Spoke). s.at) ≡ cond b (stated_place m o t t.key) None
place_if m o t true = refl
place_if m o t false = refl

-- a terminal stands in the graph where it stands in the network
pub place_is : (m : List Statement) (o : Overlay) (g : GraphView) (t : Term) → IsGraphOf m o g → place_at g t ≡ place_of m o t
place_is m o g t of_network = ap (λ (found : Option Spoke). and_then found (λ (s : Spoke). s.at)) (spoke_is m o g t of_network) ∙ place_if m o t (is_term m o t)
