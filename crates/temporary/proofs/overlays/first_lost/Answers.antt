use Rattle.std.proofs.Common.{◌≡◌, inl, inr, ℕ, List, map, not, nat_eq, Option, None, find, refl, ap, sym, ◌∙◌, subst, option_map, Bor}
use Rattle.std.specs.Prelude.{option_copied}
use Rattle.std.specs.List.{IsDistinct}
use Rattle.cim_words.specs.declared.statement.Statement.{Statement}
use Rattle.cim_model.specs.Marks.{marks_of}
use Rattle.cim_model.specs.Stands.{AreApart, ItemStands, PositionStands}
use Rattle.room_words.specs.Items.{item_number}
use Rattle.room_words.specs.declared.items.TempItem.{TempItem}
use Rattle.room_words.specs.declared.overlay.Overlay.{Overlay}
use Rattle.room_words.specs.declared.overlay.Position.{Position}
use Rattle.room_words.specs.Firsts.{AllHave}
use Rattle.temporary.specs.Lost.{IsFirstLost}
use Rattle.temporary.specs.Parts.{does_stand, is_of_switch}
use Rattle.room_words.specs.declared.lost.Lost.{Lost}
use Rattle.temporary.proofs.Tests.{all_have, first_without}
use Rattle.temporary.proofs.Whole.{item_passes, item_stands}
use Rattle.temporary.proofs.overlays.first_lost.Goals as goal

items_stand : (m : List Statement) (o : Overlay) → IsDistinct nat_eq (map item_number o.items) → ((x : ℕ) → AreApart (marks_of m x)) → find (λ (one : TempItem). not (does_stand m o one)) o.items ≡ None → AllHave (ItemStands m o) o.items
items_stand m o distinct model none = all_have (does_stand m o) (ItemStands m o) (λ one is. item_stands m o one distinct model is) (λ one is. item_passes m o one is) o.items none

positions_stand : (m : List Statement) (o : Overlay) → find (λ (position : Position). not (is_of_switch m position)) o.positions ≡ None → AllHave (PositionStands m) o.positions
positions_stand m o none = all_have (is_of_switch m) (PositionStands m) (λ position is. is) (λ position is. is) o.positions none

pub returns-in_err-first_position-in-None : goal.returns-in_err-first_position-in-None
returns-in_err-first_position-in-None c =
    let m = c.args.index.now in
    let o = c.args.overlay.now in
    subst (λ (lost : Option Lost). IsFirstLost m o (option_map (λ (lost : Lost). lost.id) lost)) (sym c.from_residual.ensures) (
      items_stand m o c.requires (λ x. (c.marks_divide_segments.ensures m x c.set.ensures.faultless).apart) (sym c.first_item.ensures ∙ ap (λ (found : Option (Bor TempItem)). option_copied found) c.in-None.is),
      positions_stand m o (sym c.first_position.ensures ∙ ap (λ (found : Option (Bor Position)). option_copied found) (c.in_err-first_position-in-None.was {u = tt})),
    )

pub returns-in-Some : goal.returns-in-Some
returns-in-Some c =
    let m = c.args.index.now in
    let o = c.args.overlay.now in
    inl (
      c.in-Some.item.now,
      first_without (does_stand m o) (ItemStands m o) (λ one is. item_stands m o one c.requires (λ x. (c.marks_divide_segments.ensures m x c.set.ensures.faultless).apart) is) (λ one is. item_passes m o one is) o.items c.in-Some.item.now
          (sym c.first_item.ensures ∙ ap (λ (found : Option (Bor TempItem)). option_copied found) c.in-Some.is),
      sym c.id.ensures,
    )

pub returns-in_ok-first_position-in-None : goal.returns-in_ok-first_position-in-None
returns-in_ok-first_position-in-None c =
    let m = c.args.index.now in
    let o = c.args.overlay.now in
    inr (
      items_stand m o c.requires (λ x. (c.marks_divide_segments.ensures m x c.set.ensures.faultless).apart) (sym c.first_item.ensures ∙ ap (λ (found : Option (Bor TempItem)). option_copied found) c.in-None.is),
      (
        c.in_ok-first_position-in-None.field-0.now,
        first_without (is_of_switch m) (PositionStands m) (λ position is. is) (λ position is. is) o.positions c.in_ok-first_position-in-None.field-0.now
            (sym c.first_position.ensures ∙ ap (λ (found : Option (Bor Position)). option_copied found) (c.in_ok-first_position-in-None.was {u = tt})),
        refl,
      ),
    )
