-- The graph of a live network, entry by entry, of this project.
use Rattle.std.specs.Prelude.{ℕ, ◌≡◌, ◌↔◌, List, false, IsTrue, Option, None, Some, Contains}
use Rattle.std.specs.List.Sorted.{IsStrictlySortedBy}
use Rattle.cim_model.specs.Live.{is_live, is_place, place_of}
use Rattle.cim_words.specs.declared.statement.Statement.{Statement}
use Rattle.graph_pages.specs.Graph.{GraphView, members_of, star_of}
use Rattle.graph_pages.specs.declared.star.Star.{Star}
use Rattle.link_rules.specs.Inputs.{IsStar, inputs}
use Rattle.room_words.specs.Terms.{term_order}
use Rattle.room_words.specs.declared.anchor.Anchor.{Anchor}
use Rattle.room_words.specs.declared.overlay.Overlay.{Overlay}
use Rattle.room_words.specs.declared.term.Term.{Term}

-- equipment and items have their star, and nothing else has one
abbrev pub IsStarAt : List Statement → Overlay → ℕ → Option Star → Type 0
IsStarAt m o x None = is_live m o x ≡ false
IsStarAt m o x (Some star) = IsTrue (is_live m o x) × IsStar x (inputs m o x) star

-- the members of a place: just the terminals that stand there, in ascending order of owner and key
pub record AreMembers (m : List Statement) (o : Overlay) (place : Anchor) (members : List Term) : Type 0 where
  pub ascending : IsStrictlySortedBy term_order members
  pub terminals : (t : Term) → Contains members t ↔ (place_of m o t ≡ Some place)

-- a place has its members, and what is no place has none
abbrev pub IsEntry : List Statement → Overlay → Anchor → Option (List Term) → Type 0
IsEntry m o place None = is_place m o place ≡ false
IsEntry m o place (Some members) = IsTrue (is_place m o place) × AreMembers m o place members

-- the graph of a live network
pub record IsMap (m : List Statement) (o : Overlay) (g : GraphView) : Type 0 where
  pub stars : (x : ℕ) → IsStarAt m o x (star_of g x)
  pub places : (place : Anchor) → IsEntry m o place (members_of g place)
