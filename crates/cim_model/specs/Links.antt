-- How current goes through a live network, from point to point, a point being a terminal in one of its phases.
use Rattle.std.specs.Prelude.{ℕ, ◌≡◌, ◌⊎◌, List, Bool, not, IsTrue, Some}
use Rattle.cim_words.specs.Phases.{has_phase}
use Rattle.cim_words.specs.declared.phases.Phase.{Phase}
use Rattle.cim_words.specs.declared.statement.Statement.{Statement}
use Rattle.cim_model.specs.Live.{Conduction, PassesAlong, PassesSwitched, PassesAll, PassesTransformed, conduction, is_open, place_of, stands_on, term_phases}
use Rattle.cim_model.specs.Network.{segment_phases}
use Rattle.cim_model.specs.Phases.{Transforms}
use Rattle.cim_model.specs.Reach.{Wiring}
use Rattle.cim_model.specs.Sections.{InOneSection}
use Rattle.room_words.specs.declared.anchor.Anchor.{Anchor}
use Rattle.room_words.specs.declared.overlay.Overlay.{Overlay}
use Rattle.room_words.specs.declared.term.Point.{Point}
use Rattle.room_words.specs.declared.term.Term.{Term}

-- whether a switch lets a phase through: where it is closed
abbrev pub lets_through : Bool → Phase → Bool
lets_through is_open p = not is_open

-- Two points are joined in exactly these cases: at one place in one phase; in one section of a segment in one of the segment's
-- phases; from side to side of a switch in a phase that it lets through, a cut being one between its sides, and a jumper one between
-- its anchors; by a junction, a busbar section or a series compensator in one phase; between two terminals of a transformer, as it
-- passes phases.
abbrev pub AtPlace : List Statement → Overlay → Point → Point → Type 0
AtPlace m o a b = (place : Anchor) × (place_of m o a.term ≡ Some place) × (place_of m o b.term ≡ Some place) × (a.phase ≡ b.phase)

abbrev pub InSection : List Statement → Overlay → Point → Point → Type 0
InSection m o a b =
    (x : ℕ) × (conduction m o x ≡ PassesAlong) × InOneSection m o x a.term b.term × IsTrue (has_phase (segment_phases m x) a.phase)
    × (a.phase ≡ b.phase)

-- both points are at terminals of one owner, which conducts in a way
abbrev pub AtOwner : List Statement → Overlay → Conduction → Point → Point → Type 0
AtOwner m o how a b = (a.term.owner ≡ b.term.owner) × (conduction m o a.term.owner.number ≡ how)

abbrev pub ThroughSwitch : List Statement → Overlay → Point → Point → Type 0
ThroughSwitch m o a b =
    AtOwner m o PassesSwitched a b × (a.term ≡ b.term → ⊥) × IsTrue (lets_through (is_open m o a.term.owner.number) a.phase) × (a.phase ≡ b.phase)

abbrev pub ThroughPassing : List Statement → Overlay → Point → Point → Type 0
ThroughPassing m o a b = AtOwner m o PassesAll a b × (a.phase ≡ b.phase)

abbrev pub ThroughTransformer : List Statement → Overlay → Point → Point → Type 0
ThroughTransformer m o a b = AtOwner m o PassesTransformed a b × (a.term ≡ b.term → ⊥) × Transforms a.phase b.phase

abbrev pub Joined : List Statement → Overlay → Point → Point → Type 0
Joined m o a b = AtPlace m o a b ⊎ InSection m o a b ⊎ ThroughSwitch m o a b ⊎ ThroughPassing m o a b ⊎ ThroughTransformer m o a b

-- a terminal counts for its owner, and in a segment's phases also for the segment on which its owner, a cut or a clamp, stands
abbrev pub OnSegment : List Statement → Overlay → Term → ℕ → Phase → Type 0
OnSegment m o t y p = (stands_on m o t.owner.number ≡ Some y) × IsTrue (has_phase (segment_phases m y) p)

abbrev pub CountsFor : List Statement → Overlay → Term → ℕ → Phase → Type 0
CountsFor m o t y p = (t.owner.number ≡ y) ⊎ OnSegment m o t y p

-- the wiring of a live network; a trace of an owner starts at the owner's terminals
abbrev pub network : List Statement → Overlay → Wiring
network m o = record {
  phases = term_phases m o;
  starts = λ (x : ℕ) (t : Term). t.owner.number ≡ x;
  joined = Joined m o;
  counts = CountsFor m o;
}
