-- What a difference makes of a model (after the reverse and forward parts of IEC 61970-552); the order of the two is this project's.
use Rattle.std.specs.Prelude.{ℕ, ◌+◌, ◌≡◌, ◌⊎◌, List, length, Contains, Option, Some, None}
use Rattle.cim_words.specs.declared.statement.Statement.{Statement}
use Rattle.room_words.specs.Differences.{Changes}
use Rattle.room_words.specs.Firsts.{AllHave, IsFirstWithout}
use Rattle.statement_set.specs.Set.{IsInFirstAlone}

-- The model without the reverse statements, and then with the forward statements: a statement in both lists is in the result.
abbrev pub IsInResult : List Statement → Changes → Statement → Type 0
IsInResult m d s = IsInFirstAlone m d.rev s ⊎ Contains d.fwd s

-- the first statement of a list that is not in a set has this number, counted from 1
pub record IsMissing (set listed : List Statement) (number : ℕ) : Type 0 where
  pub statement : Statement
  pub first : IsFirstWithout (Contains set) listed statement
  pub counted : number ≡ length first.before + 1

-- the number of the first statement of a list that is not in a set, or none where all are
abbrev pub IsFirstMissing : List Statement → List Statement → Option ℕ → Type 0
IsFirstMissing set listed None = AllHave (Contains set) listed
IsFirstMissing set listed (Some number) = IsMissing set listed number
