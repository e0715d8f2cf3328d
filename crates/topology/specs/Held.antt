-- How lists of stars and of places hold the entries of a graph.
use Rattle.std.specs.Prelude.{◌≡◌, List, Some, map}
use Rattle.std.specs.List.{AllByRecursion}
use Rattle.std.specs.Map.{keys_of}
use Rattle.cim_words.specs.declared.identifier.Id.{Id}
use Rattle.cim_words.specs.declared.statement.Statement.{Statement}
use Rattle.graph_pages.specs.declared.star.Star.{Star}
use Rattle.link_rules.specs.Map.{IsEntry, IsStarAt}
use Rattle.room_words.specs.declared.anchor.Anchor.{Anchor}
use Rattle.room_words.specs.declared.overlay.Overlay.{Overlay}
use Rattle.room_words.specs.declared.term.Term.{Term}

-- the stars are those of these identifiers, in order
pub record HoldsStars (m : List Statement) (o : Overlay) (ids : List Id) (stars : List Star) : Type 0 where
  pub keys : map (λ (star : Star). star.id) stars ≡ ids
  pub entries : AllByRecursion (λ (star : Star). IsStarAt m o star.id.number (Some star)) stars

-- these places, in order, each with its members
pub record HoldsMembers (m : List Statement) (o : Overlay) (places : List Anchor) (held : List (Anchor × List Term)) : Type 0 where
  pub keys : keys_of held ≡ places
  pub entries : AllByRecursion (λ (place : Anchor × List Term). IsEntry m o place.0 (Some place.1)) held
