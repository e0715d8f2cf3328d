-- The limits of a network, of this project.
use Rattle.std.specs.Prelude.{ℕ}

-- how many cuts and clamps a segment has at most, and how far one may be from the segment's terminal 1, in millimetres
abbrev pub most_marks : ℕ
most_marks = 256

abbrev pub most_length : ℕ
most_length = 1000000000000

-- how many terminals equipment has at most that is no segment, no switch and not single
abbrev pub most_terminals : ℕ
most_terminals = 64

-- how many terminals stand at a place at most
abbrev pub most_at_place : ℕ
most_at_place = 1024

-- how many items an overlay has at most
abbrev pub most_items : ℕ
most_items = 4096
