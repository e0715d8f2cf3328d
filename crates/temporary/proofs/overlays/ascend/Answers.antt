use Rattle.std.proofs.Common.{◌≡◌, true, false, refl}
use Rattle.temporary.proofs.Ascending.{climbs_all, climbs_next, climbs_one, falls}
use Rattle.temporary.proofs.overlays.ascend.Goals as goal

pub loop-place-init : goal.loop-place-init
loop-place-init c = climbs_one c.args.positions.now

pub returns-then-positions-place : goal.returns-then-positions-place
returns-then-positions-place c = (
  (λ no. absurd (let both : false ≡ true = no in cc)),
  (λ up. absurd (falls c.args.positions.now c.loop-place.place _ c.loop-place.auto.place c.loop-place-test.true c.if-positions-place.true up)),
)

pub loop-place-preserved : goal.loop-place-preserved
loop-place-preserved c = climbs_next c.args.positions.now c.loop-place.place _ c.loop-place.invariant c.if-positions-place.false

pub returns : goal.returns
returns c = ((λ yes. climbs_all c.args.positions.now c.loop-place.place c.loop-place.invariant c.loop-place-test.false), (λ up. refl))
