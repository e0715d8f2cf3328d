-- The table of an act has few entries: with an item change at most two stars, and the members of at most two places.
use Rattle.std.proofs.Common.{◌+◌, ◌≤◌, [], length, true, false, Option, Some, None, arith}
use Rattle.std.specs.Option.{option_map_or}
use Rattle.room_words.specs.Overlay.{item_of}
use Rattle.room_words.specs.declared.act.Act.{Act}
use Rattle.room_words.specs.declared.act.Act.TheVariants as act
use Rattle.room_words.specs.declared.items.TempItem.{TempItem}
use Rattle.room_words.specs.declared.items.TempItem.TheVariants as item
use Rattle.room_words.specs.declared.overlay.Overlay.{Overlay}
use Rattle.increment.specs.Touched.{item_places, item_stars, touched_places, touched_stars}

few_of_item : (one : TempItem) → length (item_stars one) + length (item_places one) ≤ 4
few_of_item (item.Cut id segment at is_open) = omega arith
few_of_item (item.Clamp id segment at) = omega arith
few_of_item (item.Jumper id first second phases is_open) = omega arith
few_of_item (item.Ground id at phases) = omega arith

few_if : (found : Option TempItem) → length (option_map_or item_stars found []) + length (option_map_or item_places found []) ≤ 4
few_if None = omega arith
few_if (Some one) = few_of_item one

pub few_entries : (o : Overlay) (a : Act) → length (touched_stars o a) + length (touched_places o a) ≤ 4
few_entries o (act.OpenSwitch id) = omega arith
few_entries o (act.CloseSwitch id) = omega arith
few_entries o (act.Release id) = omega arith
few_entries o (act.Remove id) = few_if (item_of o id.number)
few_entries o (act.Cut id segment at) = few_of_item (item.Cut id segment at true)
few_entries o (act.Clamp id segment at) = few_of_item (item.Clamp id segment at)
few_entries o (act.Jumper id first second phases) = few_of_item (item.Jumper id first second phases false)
few_entries o (act.Ground id at phases) = few_of_item (item.Ground id at phases)
