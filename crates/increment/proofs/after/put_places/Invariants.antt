use Rattle.std.proofs.Common.{◌≡◌, ◌+◌, take}
use Rattle.increment.specs.Edits.{HasMembersPut}
use Rattle.increment.proofs.after.put_places.Given as goal

abbrev pub invariant-loop-place : goal.invariant-loop-place
invariant-loop-place g l =
    HasMembersPut l.index l.overlay (take l.place-index l.places) l.fn.edit l.edit × (l.steps ≡ l.fn.steps + l.place-index)
