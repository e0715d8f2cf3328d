-- What an accepted switching order does to the overlay, of this project.
use Rattle.std.specs.Prelude.{ℕ, List, ◌∷◌, ◌++◌, map, Bool, true, false, not, ◌==◌, nat_lt, if◌then◌else◌, is_some}
use Rattle.std.specs.List.{filter}
use Rattle.cim_words.specs.declared.identifier.Id.{Id}
use Rattle.room_words.specs.Acts.{placed}
use Rattle.room_words.specs.Items.{as_list, item_number}
use Rattle.room_words.specs.Overlay.{item_of, position_number}
use Rattle.room_words.specs.declared.act.Act.{Act}
use Rattle.room_words.specs.declared.act.Act.TheVariants as act
use Rattle.room_words.specs.declared.items.TempItem.{TempItem}
use Rattle.room_words.specs.declared.items.TempItem.TheVariants as item
use Rattle.room_words.specs.declared.overlay.Overlay.{Overlay}
use Rattle.room_words.specs.declared.overlay.Position.{Position}

-- a temporary cut or jumper with another position
abbrev pub turned : Bool → TempItem → TempItem
turned is_open (item.Cut id segment length was_open) = item.Cut id segment length is_open
turned is_open (item.Clamp id segment length) = item.Clamp id segment length
turned is_open (item.Jumper id first second phases was_open) = item.Jumper id first second phases is_open
turned is_open (item.Ground id at phases) = item.Ground id at phases

-- the items in their order, the one with an identifier turned
abbrev pub with_turned : ℕ → Bool → List TempItem → List TempItem
with_turned x is_open items = map (λ (one : TempItem). if item_number one == x then turned is_open one else one) items

-- the positions of the lesser switches, that of this one, and those of the greater ones
abbrev pub with_position : Id → Bool → List Position → List Position
with_position switch is_open positions =
    filter (λ (one : Position). nat_lt (position_number one) switch.number) positions
    ++ record { switch = switch; is_open = is_open }
    ∷ filter (λ (one : Position). nat_lt switch.number (position_number one)) positions

abbrev pub without_position : ℕ → List Position → List Position
without_position x positions = filter (λ (one : Position). not (position_number one == x)) positions

-- the items in their order, but for the one with an identifier
abbrev pub without_item : ℕ → List TempItem → List TempItem
without_item x items = filter (λ (one : TempItem). not (item_number one == x)) items

-- An item is turned itself; for a switch of the model the position in force is.
abbrev pub switched : Overlay → Id → Bool → Overlay
switched o id is_open =
    if is_some (item_of o id.number)
    then record { items = with_turned id.number is_open o.items; positions = o.positions }
    else record { items = o.items; positions = with_position id is_open o.positions }

-- what the overlay is after an act: an item that is placed stands at the end
abbrev pub effect : Overlay → Act → Overlay
effect o (act.OpenSwitch id) = switched o id true
effect o (act.CloseSwitch id) = switched o id false
effect o (act.Release id) = record { items = o.items; positions = without_position id.number o.positions }
effect o (act.Remove id) = record { items = without_item id.number o.items; positions = o.positions }
effect o a = record { items = o.items ++ as_list (placed a); positions = o.positions }
