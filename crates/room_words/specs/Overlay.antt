-- What stands in an overlay, looked up by identifier.
use Rattle.std.specs.Prelude.{ℕ, [], Bool, ◌==◌, Option, option_map, find, unwrap_or}
use Rattle.room_words.specs.Items.{item_number}
use Rattle.room_words.specs.declared.items.TempItem.{TempItem}
use Rattle.room_words.specs.declared.overlay.Overlay.{Overlay}
use Rattle.room_words.specs.declared.overlay.Position.{Position}

-- the overlay of an untouched network
abbrev pub no_overlay : Overlay
no_overlay = record { items = []; positions = [] }

-- the item with an identifier, and what it says, or else something other
abbrev pub item_of : Overlay → ℕ → Option TempItem
item_of o x = find (λ (one : TempItem). item_number one == x) o.items

abbrev pub item_or : {X : Type 0} → Overlay → ℕ → (TempItem → X) → X → X
item_or o x says other = unwrap_or (option_map says (item_of o x)) other

-- whether a switch is open by the position in force for it, where there is one
abbrev pub position_number : Position → ℕ
position_number position = position.switch.number

abbrev pub position_of : Overlay → ℕ → Option Bool
position_of o x = option_map (λ (position : Position). position.is_open) (find (λ (position : Position). position_number position == x) o.positions)
