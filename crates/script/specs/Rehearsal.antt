-- What a script leads from one request to the next, of this project: the room, and the difference that each console has staged.
use Rattle.std.specs.Prelude.{ℕ, ◌-◌, List, Option, None, take, replicate, slice_index_or, slice_set}
use Rattle.cim_words.specs.declared.statement.Statement.{Statement}
use Rattle.desk.specs.Consoles.{most_consoles}
use Rattle.room_core.specs.Machine.{RoomState, seen_by}
use Rattle.room_core.specs.Views as room
use Rattle.room_words.specs.Differences.{Changes}
use Rattle.versions.specs.Past.{Past}

-- a room on statements, and the differences that its consoles have staged, console 1 first
pub record RehearsalState : Type 0 where
  pub room : RoomState (List Statement)
  pub staged : List (Option Changes)

-- before the first request
abbrev pub at_start : List Statement → RehearsalState
at_start base = record { room = room.at_start base; staged = replicate most_consoles None }

-- what a console has staged, and the same with something else staged, or nothing
abbrev pub staged_by : RehearsalState → ℕ → Option Changes
staged_by r console = slice_index_or r.staged (console - 1) None

abbrev pub with_staged : RehearsalState → ℕ → Option Changes → RehearsalState
with_staged r console d = record { room = r.room; staged = slice_set r.staged (console - 1) d }

-- the base and the prefix of the history that a console has seen
abbrev pub seen_past : RehearsalState → ℕ → Past
seen_past r console = record { base = r.room.origin; log = take (seen_by r.room console) r.room.log }
