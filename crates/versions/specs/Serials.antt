-- Counts of the entries of each console, of this project.
use Rattle.std.specs.Prelude.{ℕ, ◌-◌, ◌≡◌, List, length, slice_index_or}
use Rattle.desk.specs.Consoles.{IsConsole, entries_of}
use Rattle.room_words.specs.declared.event.Entry.{Entry}

-- what a list of counts says of a console: they stand in the order of the consoles' numbers
abbrev pub count_of : ℕ → List ℕ → ℕ
count_of console counts = slice_index_or counts (console - 1) 0

-- the counts are those of a log: of each console they say how many entries of the log it has
abbrev pub AreCounts : List ℕ → List Entry → Type 0
AreCounts counts log = (console : ℕ) → IsConsole console → count_of console counts ≡ length (entries_of console log)
