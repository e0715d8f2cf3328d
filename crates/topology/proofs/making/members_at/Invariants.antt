use Rattle.std.proofs.Common.{take}
use Rattle.topology.specs.Held.{HoldsMembers}
use Rattle.topology.proofs.making.members_at.Given as goal

abbrev pub invariant-loop-place : goal.invariant-loop-place
invariant-loop-place l = HoldsMembers l.index l.overlay (take l.place-index l.places) l.held.items
