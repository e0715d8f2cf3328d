-- What contracts see of a tracer, of its search and its terminals, and of the places and sections that a trace has visited.
use Rattle.std.specs.Prelude.{List, ℕ}
use Rattle.cim_model.specs.Trace.{Row}
use Rattle.graph_pages.specs.Graph.{GraphView}
use Rattle.cim_words.specs.declared.phases.PhaseSet.{PhaseSet}
use Rattle.room_words.specs.declared.term.Term.{Term}
use Rattle.feeder_trace.specs.declared.hub.Hub.{Hub}

-- the graph that it was reserved for, and the rows of its last trace
pub record TracerView : Type 0 where
  pub graph : GraphView
  pub rows : List Row

-- the terminals by number, each with its phases, and how many there is memory for
pub record TerminalsView : Type 0 where
  pub listed : List (Term × PhaseSet)
  pub most : ℕ

-- the graph, the terminals that were reached with their phases, how many there is memory for, the phases in which each was reached, and
-- the terminals that are still to be spread from with the phases
pub record SearchView : Type 0 where
  pub graph : GraphView
  pub terminals : List (Term × PhaseSet)
  pub most : ℕ
  pub reached : List PhaseSet
  pub pending : List (Term × PhaseSet)

-- the graph, the places and sections that were visited, and by their numbers the phases in which each was
pub record HubsView : Type 0 where
  pub graph : GraphView
  pub hubs : List Hub
  pub visited : List PhaseSet
