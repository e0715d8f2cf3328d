use Rattle.std.proofs.Common.{◌≡◌, ◌++◌, map, take}
use Rattle.cim_model.specs.Network.{equipment}
use Rattle.cim_model.specs.Values.{as_id}
use Rattle.room_words.specs.Items.{item_id}
use Rattle.topology.proofs.listing.owners.Given as goal

abbrev pub invariant-loop-item : goal.invariant-loop-item
invariant-loop-item l = l.ids.items ≡ map as_id (equipment l.index) ++ map item_id (take l.item-index l.overlay.items)
