-- Sets of phases under numbers.
use Rattle.std.specs.Prelude.{ℕ, ◌≡◌, ◌||◌, List, Some, slice_get, set, IsTrue}
use Rattle.cim_words.specs.Phases.{has_phase}
use Rattle.cim_words.specs.declared.phases.Phase.{Phase}
use Rattle.cim_words.specs.declared.phases.PhaseSet.{PhaseSet}

-- the set at a number has a phase
abbrev pub IsSet : List PhaseSet → ℕ → Phase → Type 0
IsSet sets i p = (held : PhaseSet) × (slice_get sets i ≡ Some held) × IsTrue (has_phase held p)

-- new phases join those at a number
pub record Joins (i : ℕ) (before new : PhaseSet) (old now : List PhaseSet) : Type 0 where
  pub joined : PhaseSet
  pub joins : (p : Phase) → has_phase joined p ≡ (has_phase before p || has_phase new p)
  pub is : now ≡ set old i joined
