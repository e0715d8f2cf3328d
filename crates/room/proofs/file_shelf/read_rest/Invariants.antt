use Rattle.std.proofs.Common.{◌≡◌, ◌+◌, length}
use Rattle.std.specs.Io.KnownBytes.{Consumes}
use Rattle.room.proofs.file_shelf.read_rest.Given as goal

-- what has been read and what may still be read is the cap, and what has been read is gone from the reader
abbrev pub invariant-loop : goal.invariant-loop
invariant-loop g l = (length l.into.items + l.left ≡ l.cap) × Consumes (g.R.Read.remaining l.initial.from) (g.R.Read.remaining l.from) l.into.items
