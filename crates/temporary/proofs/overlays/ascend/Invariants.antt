use Rattle.temporary.proofs.Ascending.{Climbs}
use Rattle.temporary.proofs.overlays.ascend.Given as goal

abbrev pub invariant-loop-place : goal.invariant-loop-place
invariant-loop-place l = Climbs l.positions l.place
