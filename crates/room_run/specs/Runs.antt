-- What came of serving a room at its doors. All of it is of this project.
use Rattle.std.specs.Prelude.{ℕ, ◌≡◌, ◌+◌, List, [], ◌∷◌, length}
use Rattle.std.specs.List.{sum_by}
use Rattle.board.specs.Lists.{IsPrefix}
use Rattle.cim_words.specs.declared.statement.Statement.{Statement}
use Rattle.desk.specs.Legal.{IsLegal}
use Rattle.desk.specs.Receipts.{AreNumbered, receipts_in}
use Rattle.room_words.specs.declared.event.Entry.{Entry}
use Rattle.session_host.specs.Doors.{AreVisits, DoorShown, Gave, GivesNoMore, Visit}
use Rattle.session_host.specs.Views.{View}
use Rattle.session_host.specs.declared.door_end.DoorEnd.{DoorEnd}
use Rattle.versions.specs.History.{Judges}

-- what a console did: its sessions in their order, and its view after the last one
pub record ConsoleRecord : Type 0 where
  pub visits : List Visit
  pub last : View

-- before its first session a console has seen nothing
abbrev pub unseen : View
unseen = record { seen = []; made = []; founds = [] }

-- A console was served at its door until the door gave no more. Its sessions stand in the history, of which it has seen the beginning. Its
-- receipts are those of its entries there, with the serials 1, 2 and so on.
pub record IsConsoleRun (base : List Statement) (history : List Entry) (console : ℕ) (before after : DoorShown) (counted : DoorEnd)
    (done : ConsoleRecord) : Type 0 where
  pub sessions : AreVisits base history console unseen done.visits done.last
  pub seen : IsPrefix done.last.seen history
  pub made : done.last.made ≡ receipts_in console history
  pub serials : AreNumbered done.last.made
  pub gave : Gave before after counted done.visits
  pub asked : GivesNoMore after counted

-- the consoles from one number on, each at its door
abbrev pub AreConsoleRuns : List Statement → List Entry → ℕ → List DoorShown → List DoorShown → List DoorEnd → List ConsoleRecord → Type 0
AreConsoleRuns base history console [] [] [] [] = Unit {0}
AreConsoleRuns base history console (before ∷ befores) (after ∷ afters) (counted ∷ counts) (done ∷ records) =
    IsConsoleRun base history console before after counted done × AreConsoleRuns base history (console + 1) befores afters counts records
AreConsoleRuns base history console _ _ _ _ = ⊥

-- A room was served over a base: its history is legal, each console was served at its door, console 1 at the first one, and the receipts of
-- all consoles together are as many as the entries.
pub record IsRun (base : List Statement) (history : List Entry) (before after : List DoorShown) (counts : List DoorEnd) : Type 0 where
  pub legal : IsLegal (Judges base) history
  pub records : List ConsoleRecord
  pub consoles : AreConsoleRuns base history 1 before after counts records
  pub receipts : sum_by (λ done. length done.last.made) records ≡ length history
