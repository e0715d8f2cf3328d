-- A graph as two finite maps, of this project: from equipment and items to their stars, and from places to the terminals there.
use Rattle.std.specs.Prelude.{ℕ, List, ◌==◌, Option, find}
use Rattle.std.specs.Map.{lookup}
use Rattle.graph_pages.specs.declared.star.Star.{Star}
use Rattle.room_words.specs.Terms.{same_anchor}
use Rattle.room_words.specs.declared.anchor.Anchor.{Anchor}
use Rattle.room_words.specs.declared.term.Term.{Term}

-- the stars, each of another piece of equipment or item, and the places, each another one, with their members
pub record GraphView : Type 0 where
  pub stars : List Star
  pub places : List (Anchor × List Term)

-- the star of an identifier, and the members of a place
abbrev pub star_in : List Star → ℕ → Option Star
star_in stars x = find (λ (star : Star). star.id.number == x) stars

abbrev pub members_in : List (Anchor × List Term) → Anchor → Option (List Term)
members_in places place = lookup (same_anchor place) places

abbrev pub star_of : GraphView → ℕ → Option Star
star_of g x = star_in g.stars x

abbrev pub members_of : GraphView → Anchor → Option (List Term)
members_of g place = members_in g.places place
