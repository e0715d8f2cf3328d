-- What a graph has entries for.
use Rattle.std.specs.Prelude.{List, ◌++◌, map}
use Rattle.std.specs.List.{flat_map}
use Rattle.cim_model.specs.Live.{at_node}
use Rattle.cim_model.specs.Network.{equipment, nodes}
use Rattle.cim_model.specs.Values.{as_id}
use Rattle.cim_words.specs.declared.identifier.Id.{Id}
use Rattle.cim_words.specs.declared.statement.Statement.{Statement}
use Rattle.room_words.specs.Items.{item_id, own_places}
use Rattle.room_words.specs.declared.anchor.Anchor.{Anchor}
use Rattle.room_words.specs.declared.overlay.Overlay.{Overlay}

-- all equipment of a model, and then the items in order of placing
abbrev pub owners : List Statement → Overlay → List Id
owners m o = map as_id (equipment m) ++ map item_id o.items

-- all nodes of a model, and then the sides of cuts and clamps
abbrev pub places : List Statement → Overlay → List Anchor
places m o = map at_node (nodes m) ++ flat_map own_places o.items
