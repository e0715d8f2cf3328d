-- What a call gives that makes a set, of this project.
use Rattle.std.specs.Prelude.{◌≡◌, ◌≤◌, ◌<◌, List, length, Result, Ok, Err}
use Rattle.cim_words.specs.declared.statement.Statement.{Statement}
use Rattle.statement_set.specs.Set.{IsSetOf, most_statements}
use Rattle.statement_set.specs.declared.refusal.SetRefusal.{SetRefusal}
use Rattle.statement_set.specs.declared.refusal.SetRefusal.TheVariants.{TooMany, NoMemory}

-- a call gives the set of the wanted statements where that has no more than the most, and else how many it has
abbrev pub Gives : (Statement → Type 0) → Result (List Statement) SetRefusal → Type 0
Gives wanted (Ok set) = IsSetOf wanted set × (length set ≤ most_statements)
Gives wanted (Err (TooMany count)) = (set : List Statement) × IsSetOf wanted set × (length set ≡ count) × (most_statements < count)
Gives wanted (Err NoMemory) = Unit {0}
