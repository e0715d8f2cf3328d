-- The points to which current goes on from a terminal in some phases, and those of the places and sections that a trace has visited.
use Rattle.std.specs.Prelude.{◌≡◌, List, IsTrue, Option, Some, Contains, map}
use Rattle.cim_words.specs.Phases.{has_phase}
use Rattle.cim_words.specs.declared.phases.Phase.{Phase}
use Rattle.cim_words.specs.declared.phases.PhaseSet.{PhaseSet}
use Rattle.graph_pages.specs.Graph.{GraphView}
use Rattle.graph_pages.specs.Walks.{Line, AtPlace, HasSpoke, InSection, Joined, Passes}
use Rattle.room_words.specs.declared.term.Point.{Point}
use Rattle.graph_pages.specs.declared.star.Spoke.{Spoke}
use Rattle.graph_pages.specs.declared.star.Star.{Star}
use Rattle.room_words.specs.declared.term.Term.{Term}
use Rattle.feeder_trace.specs.declared.lines.Line.{Line as BorrowedLine}
use Rattle.feeder_trace.specs.Hubs.{HubsView, IsVisited, StandsIn}
use Rattle.feeder_trace.specs.Numbering.{IsOwn}
use Rattle.feeder_trace.specs.Search.{SearchView, IsMarked}
use Rattle.feeder_trace.specs.declared.hub.Hub.{Hub}

-- the point is reached by some link from one of the terminal's points in these phases
abbrev pub From : (Point → Point → Type 0) → Term → PhaseSet → Point → Type 0
From joined t phases b = (p : Phase) × IsTrue (has_phase phases p) × joined (record { term = t; phase = p }) b

abbrev pub JoinedFrom : GraphView → Term → PhaseSet → Point → Type 0
JoinedFrom g t phases b = From (Joined g) t phases b

abbrev pub AtPlaceOf : GraphView → Term → PhaseSet → Point → Type 0
AtPlaceOf g t phases b = From (AtPlace g) t phases b

abbrev pub AlongLineOf : GraphView → Term → PhaseSet → Point → Type 0
AlongLineOf g t phases b = From (InSection g) t phases b

-- both points are in one section of a line, in one phase
abbrev pub InOneSection : Line → Point → Point → Type 0
InOneSection line a b =
    (section : List Term) × Contains line.sections section × Contains section a.term × Contains section b.term × IsTrue (has_phase line.phases a.phase)
    × (a.phase ≡ b.phase)

abbrev pub InSectionOf : Line → Term → PhaseSet → Point → Type 0
InSectionOf line t phases b = From (InOneSection line) t phases b

-- a star passes current from point to point
abbrev pub IsPassed : Star → Point → Point → Type 0
IsPassed star a b = HasSpoke star b.term × Passes star.pass a b

abbrev pub PassedFrom : Star → Term → PhaseSet → Point → Type 0
PassedFrom star t phases b = From (IsPassed star) t phases b

-- the points of some terminals in some phases
abbrev pub AmongMembers : List Term → PhaseSet → Point → Type 0
AmongMembers members phases b = Contains members b.term × IsTrue (has_phase phases b.phase)

-- the points of some spokes in some phases, but those of one terminal
abbrev pub AmongSpokes : List Spoke → Option Term → PhaseSet → Point → Type 0
AmongSpokes spokes except phases b =
    Contains (map (λ (spoke : Spoke). spoke.term) spokes) b.term × (Some b.term ≡ except → ⊥) × IsTrue (has_phase phases b.phase)

-- the points of the sections in which a terminal is
abbrev pub InSections : List (List Term) → Term → PhaseSet → Point → Type 0
InSections sections t phases b =
    (section : List Term) × Contains sections section × Contains section t × Contains section b.term × IsTrue (has_phase phases b.phase)

-- the line that a borrowed one shows
abbrev pub shown_line : BorrowedLine → Line
shown_line line = record { phases = line.phases; sections = line.sections.now }

-- the points of a place or a section in some phases
abbrev pub AtHub : GraphView → Hub → PhaseSet → Point → Type 0
AtHub g hub phases b = StandsIn g hub b.term × IsTrue (has_phase phases b.phase)

-- the places and sections are the graph's, and who stands where it was visited in one of the terminal's own phases is marked in it
pub record IsOver (g : GraphView) (hubs : HubsView) (v : SearchView) : Type 0 where
  pub same_graph : hubs.graph ≡ g
  pub marked : (hub : Hub) (a : Point) → IsVisited hubs hub a.phase → StandsIn g hub a.term → IsOwn v.graph a → IsMarked v a
