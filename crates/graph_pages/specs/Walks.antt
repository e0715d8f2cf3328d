-- How current goes through a graph, read off its stars and members, from point to point: a graph as a wiring.
use Rattle.std.specs.Prelude.{ℕ, ◌≡◌, ◌⊎◌, List, IsTrue, Option, Some, None, Contains, find, option_map, map}
use Rattle.cim_model.specs.Links.{lets_through}
use Rattle.cim_model.specs.Phases.{no_phases, Transforms}
use Rattle.cim_model.specs.Reach.{Wiring}
use Rattle.cim_words.specs.PhaseNames.{and_then}
use Rattle.cim_words.specs.Phases.{has_phase}
use Rattle.cim_words.specs.declared.identifier.Id.{Id}
use Rattle.cim_words.specs.declared.phases.Phase.{Phase}
use Rattle.cim_words.specs.declared.phases.PhaseSet.{PhaseSet}
use Rattle.graph_pages.specs.Graph.{GraphView, star_of, members_of}
use Rattle.graph_pages.specs.declared.star.Pass.{Pass}
use Rattle.graph_pages.specs.declared.star.Pass.TheVariants as pass
use Rattle.graph_pages.specs.declared.star.Spoke.{Spoke}
use Rattle.graph_pages.specs.declared.star.SpokePhases.{SpokePhases}
use Rattle.graph_pages.specs.declared.star.SpokePhases.TheVariants as phases
use Rattle.graph_pages.specs.declared.star.Star.{Star}
use Rattle.room_words.specs.Terms.{same_term}
use Rattle.room_words.specs.declared.anchor.Anchor.{Anchor}
use Rattle.room_words.specs.declared.term.Point.{Point}
use Rattle.room_words.specs.declared.term.Term.{Term}

-- a terminal as the star of its owner lists it
abbrev pub spoke_of : GraphView → Term → Option Spoke
spoke_of g t = and_then (star_of g t.owner.number) (λ (star : Star). find (λ (spoke : Spoke). same_term spoke.term t) star.spokes)

-- a line: the phases of a segment, and the terminals on it, section by section
pub record Line : Type 0 where
  pub phases : PhaseSet
  pub sections : List (List Term)

abbrev pub line_in : Pass → Option Line
line_in (pass.Line own sections) = Some (record { phases = own; sections = sections })
line_in _ = None

abbrev pub line_of : GraphView → ℕ → Option Line
line_of g x = and_then (star_of g x) (λ (star : Star). line_in star.pass)

-- the line on which a star's terminals stand: its own, or that of the segment on which it stands
abbrev pub line_on : GraphView → Option Id → Option Line
line_on g None = None
line_on g (Some segment) = line_of g segment.number

abbrev pub own_or_on : GraphView → Star → Option Line → Option Line
own_or_on g star (Some line) = Some line
own_or_on g star None = line_on g star.on

abbrev pub line_at : GraphView → Term → Option Line
line_at g t = and_then (star_of g t.owner.number) (λ (star : Star). own_or_on g star (line_in star.pass))

-- the phases of a terminal: its own, or those of the line on which it stands
abbrev pub line_phases : Option Line → PhaseSet
line_phases None = no_phases
line_phases (Some line) = line.phases

abbrev pub spoke_phases : GraphView → Term → SpokePhases → PhaseSet
spoke_phases g t (phases.Own own) = own
spoke_phases g t phases.OfSegment = line_phases (line_at g t)

abbrev pub listed_phases : GraphView → Option Spoke → PhaseSet
listed_phases g None = no_phases
listed_phases g (Some spoke) = spoke_phases g spoke.term spoke.phases

abbrev pub phases_at : GraphView → Term → PhaseSet
phases_at g t = listed_phases g (spoke_of g t)

-- where a terminal stands
abbrev pub place_at : GraphView → Term → Option Anchor
place_at g t = and_then (spoke_of g t) (λ (spoke : Spoke). spoke.at)

-- a star lists a terminal
abbrev pub HasSpoke : Star → Term → Type 0
HasSpoke star t = Contains (map (λ (spoke : Spoke). spoke.term) star.spokes) t

-- Two points are joined in exactly these cases: at one place in one phase; in one section of a line in one of the line's phases; as
-- the star of the first one's owner passes current to its terminals.
abbrev pub AtPlace : GraphView → Point → Point → Type 0
AtPlace g a b =
    (place : Anchor) × (place_at g a.term ≡ Some place) × (members : List Term) × (members_of g place ≡ Some members)
    × Contains members b.term × (a.phase ≡ b.phase)

abbrev pub InSection : GraphView → Point → Point → Type 0
InSection g a b =
    (line : Line) × (line_at g a.term ≡ Some line) × (section : List Term) × Contains line.sections section × Contains section a.term
    × Contains section b.term × IsTrue (has_phase line.phases a.phase) × (a.phase ≡ b.phase)

abbrev pub Passes : Pass → Point → Point → Type 0
Passes pass.Same a b = a.phase ≡ b.phase
Passes (pass.Switch is_open) a b = (a.term ≡ b.term → ⊥) × IsTrue (lets_through is_open a.phase) × (a.phase ≡ b.phase)
Passes pass.Transformer a b = (a.term ≡ b.term → ⊥) × Transforms a.phase b.phase
Passes _ a b = ⊥

abbrev pub ThroughStar : GraphView → Point → Point → Type 0
ThroughStar g a b = (star : Star) × (star_of g a.term.owner.number ≡ Some star) × HasSpoke star b.term × Passes star.pass a b

abbrev pub Joined : GraphView → Point → Point → Type 0
Joined g a b = AtPlace g a b ⊎ InSection g a b ⊎ ThroughStar g a b

-- a walk from x starts at the terminals that the star of x lists
abbrev pub StartsAt : GraphView → ℕ → Term → Type 0
StartsAt g x t = (star : Star) × (star_of g x ≡ Some star) × HasSpoke star t

-- a terminal counts for what owns it, and in the phases of a line also for the segment on which its owner stands
abbrev pub StandsOn : GraphView → Term → ℕ → Phase → Type 0
StandsOn g t y p =
    (star : Star) × (star_of g t.owner.number ≡ Some star) × (option_map (λ (on : Id). on.number) star.on ≡ Some y)
    × IsTrue (has_phase (line_phases (line_of g y)) p)

abbrev pub CountsFor : GraphView → Term → ℕ → Phase → Type 0
CountsFor g t y p = (t.owner.number ≡ y) ⊎ StandsOn g t y p

-- the wiring of a graph; a walk through a graph is a walk through its wiring
abbrev pub wiring : GraphView → Wiring
wiring g = record { phases = phases_at g; starts = StartsAt g; joined = Joined g; counts = CountsFor g }
