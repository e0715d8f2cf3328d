-- What a search has marked, and what a step of it marks.
use Rattle.std.specs.Prelude.{ℕ, ◌≡◌, ◌⊎◌, ◌+◌, ◌-◌, ◌*◌, ◌≤◌, ◌∷◌, ◌++◌, [], length, cond, sum_by, Some, slice_get, IsTrue, Contains}
use Rattle.cim_words.specs.Phases.{has_phase}
use Rattle.cim_words.specs.declared.phases.PhaseSet.{PhaseSet}
use Rattle.room_words.specs.declared.term.Point.{Point}
use Rattle.room_words.specs.declared.term.Term.{Term}
use Rattle.feeder_trace.specs.Numbering.{IsOwn}
pub use Rattle.feeder_trace.specs.Visited.{IsSet}
pub use Rattle.feeder_trace.specs.Views.{SearchView}

-- the terminal has this number
abbrev pub IsAt : SearchView → ℕ → Term → Type 0
IsAt v i t = (phases : PhaseSet) × (slice_get v.terminals i ≡ Some (t, phases))

-- a point is marked; it is still to be spread from
abbrev pub IsMarked : SearchView → Point → Type 0
IsMarked v a = (i : ℕ) × IsAt v i a.term × IsSet v.reached i a.phase

abbrev pub Waits : SearchView → Point → Type 0
Waits v a = (new : PhaseSet) × Contains v.pending (a.term, new) × IsTrue (has_phase new a.phase)

-- how many phases a set lacks, and how many points have no mark of those that there is memory for
abbrev pub lacking : PhaseSet → ℕ
lacking set = cond set.a 0 1 + cond set.b 0 1 + cond set.c 0 1 + cond set.n 0 1 + cond set.s1 0 1 + cond set.s2 0 1

abbrev pub unmarked : SearchView → ℕ
unmarked v = 6 * (v.most - length v.terminals) + sum_by lacking v.reached

-- the points of a terminal in some phases
abbrev pub AtTerm : Term → PhaseSet → Point → Type 0
AtTerm t phases a = (a.term ≡ t) × IsTrue (has_phase phases a.phase)

-- no point
abbrev pub Nowhere : Point → Type 0
Nowhere a = ⊥

-- Each point that may be marked and is one of the terminals' own is marked afterwards, and those that had no mark before wait.
pub record MarksAll (may : Point → Type 0) (old new : SearchView) : Type 0 where
  pub same_graph : new.graph ≡ old.graph
  pub same_most : new.most ≡ old.most
  pub marked : (a : Point) → may a → IsOwn old.graph a → IsMarked new a
  pub kept : (a : Point) → IsMarked old a → IsMarked new a
  pub only : (a : Point) → IsMarked new a → IsMarked old a ⊎ (may a × IsOwn old.graph a × Waits new a)
  pub waits : (a : Point) → Waits old a → Waits new a
  pub waits_only : (a : Point) → Waits new a → Waits old a ⊎ IsMarked new a
  pub work : unmarked new + length new.pending ≤ unmarked old + length old.pending

-- what waited last is taken out
pub record IsPopped (next : Term × PhaseSet) (old new : SearchView) : Type 0 where
  pub same_graph : new.graph ≡ old.graph
  pub same_most : new.most ≡ old.most
  pub same_terminals : new.terminals ≡ old.terminals
  pub same_reached : new.reached ≡ old.reached
  pub pending : old.pending ≡ new.pending ++ next ∷ []
