-- Consoles and the serials of their entries, of this project.
use Rattle.std.specs.Prelude.{ℕ, ◌+◌, ◌<◌, ◌≤◌, List, length, ◌==◌}
use Rattle.std.specs.List.{filter}
use Rattle.room_words.specs.declared.event.Entry.{Entry}

-- consoles have numbers from 1 to 16
abbrev pub most_consoles : ℕ
most_consoles = 16

abbrev pub IsConsole : ℕ → Type 0
IsConsole console = (0 < console) × (console ≤ most_consoles)

-- the entries of a console, and the serial of its next one: one more than the number of those that there are
abbrev pub entries_of : ℕ → List Entry → List Entry
entries_of console = filter (λ (entry : Entry). entry.console == console)

abbrev pub next_serial : ℕ → List Entry → ℕ
next_serial console entries = length (entries_of console entries) + 1
