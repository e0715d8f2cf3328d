use Rattle.topology.proofs.Made.{members_more}
use Rattle.topology.proofs.making.members_at.Goals as goal

pub loop-place-preserved : goal.loop-place-preserved
loop-place-preserved c =
    rw c.in_ok-push.ensures.items (members_more c.args.index.now c.args.overlay.now c.args.places.now c.loop-place.place-index _ c.in_ok-members.field-0 c.in-Some.members c.loop-place.held.items c.loop-place-test.true c.in_ok-members.ensures c.in-Some.is c.loop-place.invariant)
