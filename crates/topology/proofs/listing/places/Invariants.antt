use Rattle.std.proofs.Common.{◌≡◌, ◌++◌, map, take}
use Rattle.std.specs.List.{flat_map}
use Rattle.cim_model.specs.Live.{at_node}
use Rattle.cim_model.specs.Network.{nodes}
use Rattle.room_words.specs.Items.{own_places}
use Rattle.topology.proofs.listing.places.Given as goal

abbrev pub invariant-loop-item : goal.invariant-loop-item
invariant-loop-item l = l.places.items ≡ map at_node (nodes l.index) ++ flat_map own_places (take l.item-index l.overlay.items)
