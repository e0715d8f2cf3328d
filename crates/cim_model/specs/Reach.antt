-- What is reached along links: by a walk through points of any kind, and per phase through a network of terminals.
use Rattle.std.specs.Prelude.{ℕ, ◌≡◌, List, [], ◌∷◌, IsTrue}
use Rattle.cim_words.specs.Phases.{has_phase}
use Rattle.cim_words.specs.declared.phases.Phase.{Phase}
use Rattle.cim_words.specs.declared.phases.PhaseSet.{PhaseSet}
use Rattle.room_words.specs.declared.term.Point.{Point}
use Rattle.room_words.specs.declared.term.Term.{Term}

-- A list of points leads from a to b: it ends at b, and each next one is linked from the one before. The list leaves out a.
abbrev pub Leads : {V : Type 0} → (V → V → Type 0) → V → List V → V → Type 0
Leads link a [] b = a ≡ b
Leads link a (c ∷ cs) b = link a c × Leads link c cs b

-- b is reached where some such list begins at a start
abbrev pub Reaches : {V : Type 0} → (V → V → Type 0) → (V → Type 0) → V → Type 0
Reaches {V} link start b = (a : V) × start a × (steps : List V) × Leads link a steps b

-- A wiring: the phases of each terminal, the terminals from which a trace of an owner starts, which points are joined, and for which
-- equipment or item a terminal counts in a phase. A live network is one, and so is a graph.
pub record Wiring : Type 1 where
  pub phases : Term → PhaseSet
  pub starts : ℕ → Term → Type 0
  pub joined : Point → Point → Type 0
  pub counts : Term → ℕ → Phase → Type 0

-- the phase is one of the terminal's
abbrev pub IsPoint : Wiring → Point → Type 0
IsPoint w a = IsTrue (has_phase (w.phases a.term) a.phase)

-- points are linked where they are joined
pub record Linked (w : Wiring) (a b : Point) : Type 0 where
  pub from : IsPoint w a
  pub to : IsPoint w b
  pub joined : w.joined a b

-- a trace from x in some phases starts at the terminals of x, in those of their phases that are among them
pub record IsStart (w : Wiring) (x : ℕ) (asked : PhaseSet) (a : Point) : Type 0 where
  pub of_source : w.starts x a.term
  pub point : IsPoint w a
  pub in_asked : IsTrue (has_phase asked a.phase)

-- a point is reached from x in some phases
abbrev pub IsPointReached : Wiring → ℕ → PhaseSet → Point → Type 0
IsPointReached w x asked b = Reaches (Linked w) (IsStart w x asked) b

-- y is reached in a phase from x where the phase is reached at a terminal that counts for y
pub record IsReached (w : Wiring) (x : ℕ) (asked : PhaseSet) (y : ℕ) (p : Phase) : Type 0 where
  pub term : Term
  pub counts : w.counts term y p
  pub reached : IsPointReached w x asked (record { term = term; phase = p })
