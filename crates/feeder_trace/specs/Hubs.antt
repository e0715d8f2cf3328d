-- The places and sections of a graph, and in which phases a trace has visited each.
use Rattle.std.specs.Prelude.{Bool, false, ◌==◌, ◌&&◌, ℕ, ◌≡◌, ◌⊎◌, ◌+◌, ◌<◌, ◌≤◌, length, position, Some, IsTrue, List, Contains, slice_get}
use Rattle.std.specs.List.{IsDistinct}
use Rattle.std.specs.Vec.{vec_capacity}
use Rattle.indexmap.specs.IndexSet.{index_set_len, spare}
use Rattle.room_words.specs.Terms.{same_anchor}
use Rattle.room_words.specs.declared.term.Term.{Term}
use Rattle.cim_words.specs.Phases.{has_phase}
use Rattle.cim_words.specs.declared.phases.Phase.{Phase}
use Rattle.cim_words.specs.declared.phases.PhaseSet.{PhaseSet}
use Rattle.graph_pages.specs.Graph.{GraphView, members_of}
use Rattle.graph_pages.specs.Size.{listed_hubs}
use Rattle.graph_pages.specs.Walks.{Line, line_of}
use Rattle.feeder_trace.specs.Visited.{IsSet}
use Rattle.feeder_trace.specs.declared.hub.Hub.{Hub}
use Rattle.feeder_trace.specs.declared.hub.Hub.TheVariants as hub
use Rattle.feeder_trace.specs.declared.hubs.Hubs.TheInside.{Inside}
pub use Rattle.feeder_trace.specs.Views.{HubsView}

-- two are one where both are one place, or one section
abbrev pub same_hub : Hub → Hub → Bool
same_hub (hub.Place place) (hub.Place other) = same_anchor place other
same_hub (hub.Section segment n) (hub.Section other m) = segment.number == other.number && n == m
same_hub _ _ = false

-- a terminal is listed at a place or in a section
abbrev pub StandsIn : GraphView → Hub → Term → Type 0
StandsIn g (hub.Place place) t = (members : List Term) × (members_of g place ≡ Some members) × Contains members t
StandsIn g (hub.Section segment n) t =
    (line : Line) × (line_of g segment.number ≡ Some line) × (section : List Term) × (slice_get line.sections n ≡ Some section) × Contains section t

-- one of the graph: a place that has members, or a section of a line
abbrev pub IsHub : GraphView → Hub → Type 0
IsHub g (hub.Place place) = (members : List Term) × (members_of g place ≡ Some members)
IsHub g (hub.Section segment n) = (line : Line) × (line_of g segment.number ≡ Some line) × (section : List Term) × (slice_get line.sections n ≡ Some section)

-- a place or section has this number; it has a number and was visited in a phase
abbrev pub HasNumber : HubsView → Hub → ℕ → Type 0
HasNumber v hub i = position (same_hub hub) v.hubs ≡ Some i

abbrev pub IsVisited : HubsView → Hub → Phase → Type 0
IsVisited v hub p = (i : ℕ) × HasNumber v hub i × IsSet v.visited i p

-- one has a number, which it may have had before, and nothing else is visited
pub record Numbers (hub : Hub) (i : ℕ) (old new : HubsView) : Type 0 where
  pub same_graph : new.graph ≡ old.graph
  pub number : HasNumber new hub i
  pub within : i < length new.visited
  pub kept : (other : Hub) (p : Phase) → IsVisited old other p → IsVisited new other p
  pub only : (other : Hub) (p : Phase) → IsVisited new other p → IsVisited old other p

-- A place or section is visited in what is left of some phases: in each in which it was not visited before, and in no other one, and
-- is noted for them.
pub record Visits (hub : Hub) (phases left : PhaseSet) (old new : HubsView) : Type 0 where
  pub same_graph : new.graph ≡ old.graph
  pub asked : (p : Phase) → IsTrue (has_phase left p) → IsTrue (has_phase phases p)
  pub fresh : (p : Phase) → IsTrue (has_phase left p) → IsVisited old hub p → ⊥
  pub rest : (p : Phase) → IsTrue (has_phase phases p) → IsTrue (has_phase left p) ⊎ IsVisited old hub p
  pub noted : (p : Phase) → IsTrue (has_phase left p) → IsVisited new hub p
  pub kept : (other : Hub) (p : Phase) → IsVisited old other p → IsVisited new other p
  pub only : (other : Hub) (p : Phase) → IsVisited new other p → IsVisited old other p ⊎ ((other ≡ hub) × IsTrue (has_phase left p))

abbrev pub view_of : Inside → HubsView
view_of hubs = record { graph = hubs.graph; hubs = hubs.hubs.keys; visited = hubs.visited.items }

-- the hubs are the graph's, each once, and there is a set of phases for each, and the memory for all
pub record AreMarked (hubs : Inside) : Type 0 where
  pub once : IsDistinct same_hub hubs.hubs.keys
  pub of_graph : (hub : Hub) → Contains hubs.hubs.keys hub → IsHub hubs.graph hub
  pub same_length : length hubs.visited.items ≡ length hubs.hubs.keys
  pub enough : listed_hubs hubs.graph ≤ hubs.most
  pub places : hubs.most ≤ index_set_len hubs.hubs + spare hubs.hubs
  pub visited_room : hubs.most ≤ vec_capacity hubs.visited
