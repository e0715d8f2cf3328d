-- The parts and the rows of a trace.
use Rattle.std.specs.Prelude.{ℕ, ◌≡◌, ◌⊎◌, ◌+◌, ◌≤◌, ◌<◌, ◌↔◌, List, [], ◌∷◌, map, IsTrue, Contains, Vec, vec_len}
use Rattle.std.specs.Vec.{vec_capacity}
use Rattle.std.specs.declared.alloc.Global.{Global}
use Rattle.std.specs.List.{AllByRecursion}
use Rattle.cim_words.specs.Phases.{has_phase}
use Rattle.cim_words.specs.declared.phases.Phase.{Phase}
use Rattle.cim_model.specs.Trace.{Row, Lists}
use Rattle.graph_pages.specs.Graph.{GraphView}
use Rattle.graph_pages.specs.Walks.{CountsFor}
use Rattle.room_words.specs.declared.term.Term.{Term}
use Rattle.feeder_trace.specs.Search.{SearchView, IsMarked}

-- each row has a phase
abbrev pub HavePhases : List Row → Type 0
HavePhases rows = (row : Row) → Contains rows row → (p : Phase) × IsTrue (has_phase row.1 p)

-- each number is below all later ones
abbrev pub Rises : List ℕ → Type 0
Rises [] = Unit {0}
Rises (n ∷ ns) = AllByRecursion (λ m. n < m) ns × Rises ns

-- in ascending order, each once and in some phase
pub record AreRows (rows : List Row) : Type 0 where
  pub ascending : Rises (map (λ (row : Row). row.0.number) rows)
  pub in_some_phase : HavePhases rows

-- a marked terminal counts for y in a phase
abbrev pub Counted : GraphView → SearchView → ℕ → Phase → Type 0
Counted g v y p = (t : Term) × CountsFor g t y p × IsMarked v (record { term = t; phase = p })

-- a part is added: the rows list what they listed and the part
pub record AddsRow (part : Row) (old new : List Row) : Type 0 where
  pub lists : (y : ℕ) (p : Phase) → Lists new y p ↔ (Lists old y p ⊎ ((part.0.number ≡ y) × IsTrue (has_phase part.1 p)))
  pub rows : AreRows old → ((row : Row) → Contains old row → row.0.number ≤ part.0.number) → (p : Phase) → IsTrue (has_phase part.1 p) → AreRows new
  pub below : (n : ℕ) → ((row : Row) → Contains old row → row.0.number ≤ n) → part.0.number ≤ n → (row : Row) → Contains new row → row.0.number ≤ n

-- at most so many parts are added, each with a phase
pub record AddsParts (says : ℕ → Phase → Type 0) (most : ℕ) (old new : Vec Row Global) : Type 0 where
  pub lists : (y : ℕ) (p : Phase) → Lists new.items y p ↔ (Lists old.items y p ⊎ says y p)
  pub in_some_phase : HavePhases old.items → HavePhases new.items
  pub len : vec_len new ≤ vec_len old + most
  pub capacity : vec_capacity old ≤ vec_capacity new
