use Rattle.std.specs.Io.KnownBytes.{Keeps}
use Rattle.tcp_doors.proofs.stream.read_once.Given as goal

-- nothing was read yet
abbrev pub invariant-loop : goal.invariant-loop
invariant-loop g l = Keeps (g.S.Read.remaining l.initial.stream) (g.S.Read.remaining l.stream)
