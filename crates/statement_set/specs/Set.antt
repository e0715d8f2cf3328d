-- Sets of statements as lists, of this project.
use Rattle.std.specs.Prelude.{ℕ, List, Contains, ◌↔◌, ◌⊎◌}
use Rattle.std.specs.List.Sorted.{IsStrictlySortedBy}
use Rattle.cim_words.specs.Order.{statement_order}
use Rattle.cim_words.specs.declared.statement.Statement.{Statement}

-- a list is ordered where each statement stands before all that follow it
abbrev pub IsOrdered : List Statement → Type 0
IsOrdered = IsStrictlySortedBy statement_order

-- the set of the wanted statements is the ordered list of just these
pub record IsSetOf (wanted : Statement → Type 0) (set : List Statement) : Type 0 where
  pub ordered : IsOrdered set
  pub members : (s : Statement) → Contains set s ↔ wanted s

-- a union wants what is in one list or the other
abbrev pub IsInEither : List Statement → List Statement → Statement → Type 0
IsInEither these those s = Contains these s ⊎ Contains those s

-- a difference wants what is in the first list and not in the second
abbrev pub IsInFirstAlone : List Statement → List Statement → Statement → Type 0
IsInFirstAlone these those s = Contains these s × ¬ (Contains those s)

-- the statements that a set may have at most
abbrev pub most_statements : ℕ
most_statements = 1000000
