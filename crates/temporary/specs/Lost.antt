-- What of an overlay does not stand on a model, the first of it, of this project.
use Rattle.std.specs.Prelude.{◌≡◌, ◌⊎◌, List, Option, Some, None}
use Rattle.cim_words.specs.declared.identifier.Id.{Id}
use Rattle.cim_words.specs.declared.statement.Statement.{Statement}
use Rattle.cim_model.specs.Stands.{ItemStands, PositionStands}
use Rattle.room_words.specs.Firsts.{AllHave, IsFirstWithout}
use Rattle.room_words.specs.Items.{item_id}
use Rattle.room_words.specs.declared.items.TempItem.{TempItem}
use Rattle.room_words.specs.declared.overlay.Overlay.{Overlay}
use Rattle.room_words.specs.declared.overlay.Position.{Position}

-- the first item that does not stand, else the first position that does not, else nothing
abbrev pub IsFirstLost : List Statement → Overlay → Option Id → Type 0
IsFirstLost m o None = AllHave (ItemStands m o) o.items × AllHave (PositionStands m) o.positions
IsFirstLost m o (Some id) =
    ((one : TempItem) × IsFirstWithout (ItemStands m o) o.items one × (item_id one ≡ id))
    ⊎ (AllHave (ItemStands m o) o.items × ((position : Position) × IsFirstWithout (PositionStands m) o.positions position × (position.switch ≡ id)))
