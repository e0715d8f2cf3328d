-- What the tables of a model without fault hold.
use Rattle.std.specs.Prelude.{ℕ, ◌≡◌, List, map, Option, Some, None, if◌then◌else◌}
use Rattle.cim_model.specs.Marks.{marks_of}
use Rattle.cim_model.specs.Model.{is_empty}
use Rattle.cim_model.specs.Network.{part_phases, terminals_by_side}
use Rattle.cim_model.specs.Phases.{union}
use Rattle.cim_model.specs.Stated.{terminals_at}
use Rattle.cim_model.specs.Values.{as_id}
use Rattle.cim_words.specs.declared.identifier.Id.{Id}
use Rattle.cim_words.specs.declared.phases.PhaseSet.{PhaseSet}
use Rattle.cim_words.specs.declared.statement.Statement.{Statement}
use Rattle.segment_cuts.specs.declared.mark.Mark.{Mark}
use Rattle.cim_records.specs.Found.{found, members}

-- the union of some sets, where there are any
abbrev pub union_of : List PhaseSet → Option PhaseSet
union_of sets = if is_empty sets then None else Some (union sets)

-- under each piece of equipment are its terminals, by side where it has sides
abbrev pub HoldsTerminals : List Statement → List (Id × List Id) → Type 0
HoldsTerminals m groups = (x : ℕ) → members groups x ≡ map as_id (terminals_by_side m x)

-- under each node are its terminals
abbrev pub HoldsNodeTerminals : List Statement → List (Id × List Id) → Type 0
HoldsNodeTerminals m groups = (x : ℕ) → members groups x ≡ map as_id (terminals_at m x)

-- under each piece of equipment are the phases that its phase objects state
abbrev pub HoldsPhases : List Statement → List (Id × PhaseSet) → Type 0
HoldsPhases m sets = (x : ℕ) → found sets x ≡ union_of (part_phases m x)

-- under each segment are its cuts and clamps
abbrev pub HoldsMarks : List Statement → List (Id × List Mark) → Type 0
HoldsMarks m groups = (x : ℕ) → members groups x ≡ marks_of m x

-- all four tables of what statements name
pub record HoldsGathered (m : List Statement) (terminals node_terminals : List (Id × List Id)) (phases : List (Id × PhaseSet)) (marks : List (Id × List Mark)) : Type 0 where
  pub of_terminals : HoldsTerminals m terminals
  pub of_node_terminals : HoldsNodeTerminals m node_terminals
  pub of_phases : HoldsPhases m phases
  pub of_marks : HoldsMarks m marks
