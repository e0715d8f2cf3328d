use Rattle.std.proofs.Common.{◌≡◌, ◌+◌, map, take}
use Rattle.cim_model.specs.Values.{number_of_id}
use Rattle.increment.specs.Edits.{HasStarsPut}
use Rattle.increment.proofs.after.put_stars.Given as goal

abbrev pub invariant-loop-id : goal.invariant-loop-id
invariant-loop-id g l =
    HasStarsPut l.index l.overlay (map number_of_id (take l.id-index l.ids)) l.fn.edit l.edit × (l.steps ≡ l.fn.steps + l.id-index)
