-- What the versions that a room holds say together, of this project.
use Rattle.std.specs.Prelude.{ℕ, ◌≡◌, ◌≤◌, List, [], length, replicate, take}
use Rattle.std.specs.List.{All}
use Rattle.desk.specs.Consoles.{IsConsole, most_consoles}
use Rattle.room_core.specs.Machine.{RoomState}
use Rattle.room_core.specs.declared.event.CoreEvent.{CoreEvent}
use Rattle.room_core.specs.declared.event.CoreEvent.TheVariants as event
use Rattle.room_words.specs.declared.event.Entry.{Entry}

-- a room without entries
abbrev pub at_start : {O : Type 0} → O → RoomState O
at_start from = record { origin = from; log = []; seen = replicate most_consoles 0 }

-- the console of a step
abbrev pub console_of : CoreEvent → ℕ
console_of (event.Submit console submitted) = console
console_of (event.Look console number) = console
console_of (event.Ask console) = console

abbrev pub IsEvent : CoreEvent → Type 0
IsEvent one = IsConsole (console_of one)

-- every console has seen a prefix of the history, from where that began
pub record HasSeen {O : Type 0} (origin shown_origin : O) (log shown : List Entry) : Type 0 where
  pub begins : shown_origin ≡ origin
  pub within : length shown ≤ length log
  pub prefix : shown ≡ take (length shown) log

abbrev pub AreShown : {V O : Type 0} → (V → O) → (V → List Entry) → O → List Entry → List V → Type 0
AreShown {V} origin_of log_of origin log shown = All (λ (v : V). HasSeen origin (origin_of v) log (log_of v)) shown
