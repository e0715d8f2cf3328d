-- Which entries of the graph of a live network a switching order changes, of this project: all others stay as they are.
use Rattle.std.specs.Prelude.{ℕ, List, [], ◌∷◌, map, Option}
use Rattle.std.specs.Option.{option_map_or}
use Rattle.cim_model.specs.Live.{item_segment_number}
use Rattle.room_words.specs.Acts.{placed}
use Rattle.room_words.specs.Items.{as_list, item_number, standing}
use Rattle.room_words.specs.Overlay.{item_of}
use Rattle.room_words.specs.declared.act.Act.{Act}
use Rattle.room_words.specs.declared.act.Act.TheVariants as act
use Rattle.room_words.specs.declared.anchor.Anchor.{Anchor}
use Rattle.room_words.specs.declared.items.TempItem.{TempItem}
use Rattle.room_words.specs.declared.overlay.Overlay.{Overlay}
use Rattle.room_words.specs.declared.term.Term.{Term}

-- the item that an order places, or takes away: as it stands in the overlay before the order
abbrev pub moved : Overlay → Act → Option TempItem
moved o (act.Remove id) = item_of o id.number
moved o a = placed a

-- the stars that change with an item: its own, and that of the segment on which a cut or a clamp stands
abbrev pub item_stars : TempItem → List ℕ
item_stars one = item_number one ∷ as_list (item_segment_number one)

-- the places whose members change with an item: those at which its sides stand, which are places of their own for a cut or a clamp, and
-- the anchors of a jumper or a ground
abbrev pub item_places : TempItem → List Anchor
item_places one = map (λ (s : Anchor × Term). s.0) (standing one)

-- The stars that an order changes: that of the switch or the item that it opens, closes or releases, and else those that change with the
-- item that it places or takes away.
abbrev pub touched_stars : Overlay → Act → List ℕ
touched_stars o (act.OpenSwitch id) = id.number ∷ []
touched_stars o (act.CloseSwitch id) = id.number ∷ []
touched_stars o (act.Release id) = id.number ∷ []
touched_stars o a = option_map_or item_stars (moved o a) []

-- The places whose members an order changes: those that change with the item that it places or takes away.
abbrev pub touched_places : Overlay → Act → List Anchor
touched_places o a = option_map_or item_places (moved o a) []
