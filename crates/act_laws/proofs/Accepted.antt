-- An act that passes leaves an overlay that stands, act by act.
use Rattle.std.proofs.Common.{◌≡◌, inl, inr, List, Bool, true, false, ◌||◌, cond, Option, Some, None, is_some, option_map, unwrap_or, find}
use Rattle.std.specs.List.{IsDistinct}
use Rattle.cim_words.specs.Groups.{is_switch}
use Rattle.cim_words.specs.declared.identifier.Id.{Id}
use Rattle.cim_words.specs.declared.statement.Statement.{Statement}
use Rattle.cim_model.specs.Effects.{effect, switched, with_position}
use Rattle.cim_model.specs.Model.{is_of}
use Rattle.cim_model.specs.Refusals.{is_anchored_at, is_item_switched, is_switched, not_switched}
use Rattle.cim_model.specs.Stands.{Stands}
use Rattle.cim_model.proofs.OverlayItems.{IsLive}
use Rattle.room_words.specs.Overlay.{item_of}
use Rattle.room_words.specs.Terms.{same_anchor}
use Rattle.room_words.specs.declared.act.Act.{Act}
use Rattle.room_words.specs.declared.act.Act.TheVariants as act
use Rattle.room_words.specs.declared.items.TempItem.{TempItem}
use Rattle.room_words.specs.declared.items.TempItem.TheVariants as item
use Rattle.room_words.specs.declared.overlay.Overlay.{Overlay}
use Rattle.act_laws.proofs.Passed.{Passed, can_be_placed, is_so, not_refused}
use Rattle.act_laws.proofs.Placed.{placed_overlay}
use Rattle.act_laws.proofs.Positions.{in_force, put_overlay, released_overlay}
use Rattle.act_laws.proofs.Removed.{removed_overlay}
use Rattle.act_laws.proofs.Turned.{turned_overlay, with_turn}
use Rattle.plain_laws.proofs.Options.{map_none}
use Rattle.std.proofs.lemmas.Bool.{or_cases}

-- an item is turned; what is no item is a switch of the model
switched_if : (m : List Statement) (o : Overlay) (id : Id) (is_open : Bool) (found : Option TempItem) → Stands m o → (is_of m is_switch id.number || unwrap_or (option_map is_item_switched found) false) ≡ true
    → Stands m (cond (is_some found) (with_turn o id.number is_open) (in_force o (with_position id is_open o.positions)))
switched_if m o id is_open (Some one) stands is = turned_overlay m o id.number is_open stands
switched_if m o id is_open None stands is = elim (or_cases (is_of m is_switch id.number) false is) [
  | inl switch ↦ put_overlay m o id is_open switch stands
  | inr none ↦ absurd cc
]

switched_overlay : (m : List Statement) (o : Overlay) (id : Id) (is_open : Bool) → Stands m o → not_switched m o id ≡ None → Stands m (switched o id is_open)
switched_overlay m o id is_open stands fits = switched_if m o id is_open (item_of o id.number) stands (is_so (is_switched m o id.number) (not_refused _ _ fits))

pub accepted_stands : (m : List Statement) (o : Overlay) (a : Act) → IsLive m o → Passed m o a → Stands m (effect o a)
unfolding IsDistinct
accepted_stands m o (act.OpenSwitch id) live p = switched_overlay m o id true live.stands p.fits
accepted_stands m o (act.CloseSwitch id) live p = switched_overlay m o id false live.stands p.fits
accepted_stands m o (act.Release id) live p = released_overlay m o id.number live.stands
accepted_stands m o (act.Remove id) live p = removed_overlay m o id.number live.stands (map_none _ (find (is_anchored_at id.number) o.items) p.unused)
accepted_stands m o (act.Cut id segment at) live p =
    placed_overlay m o (item.Cut id segment at true) live (can_be_placed m o (item.Cut id segment at true) p.free p.fits p.within p.apart p.anchored tt p.phased p.few p.space)
accepted_stands m o (act.Clamp id segment at) live p =
    placed_overlay m o (item.Clamp id segment at) live (can_be_placed m o (item.Clamp id segment at) p.free p.fits p.within p.apart p.anchored tt p.phased p.few p.space)
accepted_stands m o (act.Jumper id first second phases) live p =
    placed_overlay m o (item.Jumper id first second phases false) live
    (can_be_placed m o (item.Jumper id first second phases false) p.free p.fits p.within p.apart p.anchored ((not_refused (same_anchor first second) _ p.different, tt), (tt, tt)) p.phased p.few p.space)
accepted_stands m o (act.Ground id at phases) live p =
    placed_overlay m o (item.Ground id at phases) live (can_be_placed m o (item.Ground id at phases) p.free p.fits p.within p.apart p.anchored (tt, tt) p.phased p.few p.space)
