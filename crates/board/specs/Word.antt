-- What a console's word says: which of its three slots it names, whether a version there is fresh, and the version's number.
use Rattle.std.specs.Prelude.{ℕ, ◌/◌, ◌%◌, ◌==◌, Bool}

-- the slot that the word names
abbrev pub slot_in : ℕ → ℕ
slot_in word = word % 4

-- the writer sent what lies there, and the reader has not collected it
abbrev pub is_fresh : ℕ → Bool
is_fresh word = word / 4 % 2 == 1

-- the number of the version that lies there
abbrev pub number_in : ℕ → ℕ
number_in word = word / 8
