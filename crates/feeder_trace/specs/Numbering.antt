-- A numbering of terminals, as far as a search has come.
use Rattle.std.specs.Prelude.{◌≡◌, List, Contains}
use Rattle.std.specs.List.{IsDistinct}
use Rattle.std.specs.Map.{keys_of}
use Rattle.cim_model.specs.Reach.{IsPoint}
use Rattle.cim_words.specs.declared.phases.PhaseSet.{PhaseSet}
use Rattle.graph_pages.specs.Graph.{GraphView}
use Rattle.graph_pages.specs.Walks.{StartsAt, phases_at, wiring}
use Rattle.room_words.specs.Terms.{same_term}
use Rattle.room_words.specs.declared.term.Point.{Point}
use Rattle.room_words.specs.declared.term.Term.{Term}

-- the phase is one of the terminal's own
abbrev pub IsOwn : GraphView → Point → Type 0
IsOwn g a = IsPoint (wiring g) a

-- each terminal stands there once, with the phases that it has in the graph, and its owner's star lists it
pub record IsNumbering (g : GraphView) (terminals : List (Term × PhaseSet)) : Type 0 where
  pub once : IsDistinct same_term (keys_of terminals)
  pub sound : (t : Term) (phases : PhaseSet) → Contains terminals (t, phases) → phases ≡ phases_at g t
  pub listed : (t : Term) (phases : PhaseSet) → Contains terminals (t, phases) → StartsAt g t.owner.number t
