use Rattle.std.proofs.Common.{take}
use Rattle.topology.specs.Held.{HoldsStars}
use Rattle.topology.proofs.making.stars_of.Given as goal

abbrev pub invariant-loop-id : goal.invariant-loop-id
invariant-loop-id l = HoldsStars l.index l.overlay (take l.id-index l.ids) l.stars.items
