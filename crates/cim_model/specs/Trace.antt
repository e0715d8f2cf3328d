-- A trace: the list of what is reached, with the phases in which it is reached.
use Rattle.std.specs.Prelude.{ℕ, ◌≡◌, List, IsTrue, Contains, map}
use Rattle.std.specs.List.Sorted.{IsStrictlyIncreasing}
use Rattle.cim_words.specs.Phases.{has_phase}
use Rattle.cim_words.specs.declared.identifier.Id.{Id}
use Rattle.cim_words.specs.declared.phases.Phase.{Phase}
use Rattle.cim_words.specs.declared.phases.PhaseSet.{PhaseSet}

-- a row: what is reached, and in which phases
abbrev pub Row : Type 0
Row = Id × PhaseSet

-- a row lists y in a phase
pub record Lists (rows : List Row) (y : ℕ) (p : Phase) : Type 0 where
  pub row : Row
  pub stands : Contains rows row
  pub of_equipment : row.0.number ≡ y
  pub in_phase : IsTrue (has_phase row.1 p)

-- The rows of a trace: in ascending order of identifier, each once and in some phase; what is reached is listed, and what is listed is reached.
pub record IsTrace (IsReached : ℕ → Phase → Type 0) (rows : List Row) : Type 0 where
  pub ascending : IsStrictlyIncreasing (map (λ (row : Row). row.0.number) rows)
  pub in_some_phase : (row : Row) → Contains rows row → (p : Phase) × IsTrue (has_phase row.1 p)
  pub complete : (y : ℕ) (p : Phase) → IsReached y p → Lists rows y p
  pub sound : (y : ℕ) (p : Phase) → Lists rows y p → IsReached y p
