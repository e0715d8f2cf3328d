-- What a change of a graph entry by entry leaves, of this project: some entries are those of a live network, and all others are as before.
use Rattle.std.specs.Prelude.{ℕ, ◌≡◌, List, Contains}
use Rattle.cim_words.specs.declared.statement.Statement.{Statement}
use Rattle.graph_pages.specs.Graph.{GraphView, members_of, star_of}
use Rattle.link_rules.specs.Map.{IsEntry, IsStarAt}
use Rattle.room_words.specs.declared.anchor.Anchor.{Anchor}
use Rattle.room_words.specs.declared.overlay.Overlay.{Overlay}

-- of two maps by look-up: what stands in the new one at these keys is right there, and at the others it is what stood in the old one
pub record ArePut {K V : Type 0} (IsRight : K → V → Type 0) (keys : List K) (before now : K → V) : Type 0 where
  pub right : (key : K) → Contains keys key → IsRight key (now key)
  pub others : (key : K) → ¬ (Contains keys key) → now key ≡ before key

-- the stars of these identifiers are put, and the members of all places are as before
pub record HasStarsPut (m : List Statement) (o : Overlay) (xs : List ℕ) (before now : GraphView) : Type 0 where
  pub stars : ArePut (IsStarAt m o) xs (star_of before) (star_of now)
  pub places : (place : Anchor) → members_of now place ≡ members_of before place

-- the members of these places are put, and all stars are as before
pub record HasMembersPut (m : List Statement) (o : Overlay) (at : List Anchor) (before now : GraphView) : Type 0 where
  pub places : ArePut (IsEntry m o) at (members_of before) (members_of now)
  pub stars : (x : ℕ) → star_of now x ≡ star_of before x
