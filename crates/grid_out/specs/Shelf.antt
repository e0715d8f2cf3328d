-- What a shelf answers, and what a shelf in memory is. All of it is of this project.
use Rattle.std.specs.Prelude.{ℕ, Bool, true, false, ◌||◌, List, [], Option, is_none, unwrap_or, Result, Ok, Err}
use Rattle.grid_out.specs.Faults.{next_count, count_after, is_listed}
use Rattle.grid_out.specs.Files.{content_of}
use Rattle.grid_out.specs.Notes.{Grows}
use Rattle.grid_out.specs.declared.shelf.ShelfFault.{ShelfFault}
use Rattle.grid_out.specs.declared.shelf.ShelfFault.TheVariants.{Failed, Longer, NoMemory}

-- whether a read was answered by a fault of the outside
abbrev pub is_failed : Result (Unit {0}) ShelfFault → Bool
is_failed (Ok _) = false
is_failed (Err Failed) = true
is_failed (Err Longer) = false
is_failed (Err NoMemory) = false

-- where the shelf tells which names it was asked for, it was asked for just these more, in this order
abbrev pub AsksFor : Option (List (List ℕ)) → Option (List (List ℕ)) → List (List ℕ) → Type 0
AsksFor = Grows

-- a shelf in memory: its files, the numbers of the calls that fail,
-- how many calls and faults there were, and the names that it was asked for, as far as it tells them
pub record ShelfState : Type 0 where
  pub files : List (List ℕ × List ℕ)
  pub failing : List ℕ
  pub calls : ℕ
  pub faults : ℕ
  pub asked : Option (List (List ℕ))

-- whether the next read of this name fails: the call is listed, or the name is missing
abbrev pub shelf_fails : ShelfState → List ℕ → Bool
shelf_fails shelf name = is_listed shelf.failing shelf.calls || is_none (content_of shelf.files name)

-- the shelf after a read of this name, with what it then tells of the names
abbrev pub shelf_after : ShelfState → List ℕ → Option (List (List ℕ)) → ShelfState
shelf_after shelf name asked =
    record shelf {
      calls = next_count shelf.calls;
      faults = count_after shelf.faults (shelf_fails shelf name);
      asked = asked;
    }

-- a shelf that cannot fail: its files, and the names that it was asked for, as far as it tells them
pub record SureState : Type 0 where
  pub files : List (List ℕ × List ℕ)
  pub asked : Option (List (List ℕ))

-- what a shelf that cannot fail tells of a name: a name that it lacks is an empty content
abbrev pub content_or_empty : List (List ℕ × List ℕ) → List ℕ → List ℕ
content_or_empty files name = unwrap_or (content_of files name) []
