use Rattle.std.proofs.Common.{◌≡◌, ℕ, List, ◌++◌}
use Rattle.std.specs.Io.KnownBytes.{Appends}
use Rattle.tcp_doors.proofs.stream.write_whole.Given as goal

-- what is gone from the rest was written
abbrev pub invariant-loop : goal.invariant-loop
invariant-loop g l = (done : List ℕ) × (l.piece ≡ done ++ l.rest) × Appends (g.S.Write.contents l.initial.stream) (g.S.Write.contents l.stream) done
