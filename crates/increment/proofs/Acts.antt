-- What is not in the table of an act stays as it is, act by act.
use Rattle.std.proofs.Common.{◌≡◌, ℕ, inl, List, [], ◌∷◌, Bool, true, false, cond, Option, Some, None, is_some, refl, sym, subst}
use Rattle.std.specs.List.{AllByRecursion, filter_map}
use Rattle.std.specs.Option.{option_map_or}
use Rattle.std.proofs.lemmas.Bool.{or_parts}
use Rattle.cim_words.specs.declared.identifier.Id.{Id}
use Rattle.cim_words.specs.declared.statement.Statement.{Statement}
use Rattle.cim_model.specs.Effects.{effect, switched, with_position, without_position}
use Rattle.cim_model.specs.Model.{is_subject}
use Rattle.cim_model.specs.Network.{first}
use Rattle.cim_model.specs.Refusals.{is_taken, refusal_of, refusals, refused_if, taken}
use Rattle.cim_model.specs.Stands.{Stands}
use Rattle.plain_laws.proofs.Members.{Among}
use Rattle.plain_laws.proofs.Options.{none_from_false}
use Rattle.room_words.specs.Items.{item_id, item_number}
use Rattle.room_words.specs.Overlay.{item_of}
use Rattle.room_words.specs.declared.act.Act.{Act}
use Rattle.room_words.specs.declared.act.Act.TheVariants as act
use Rattle.room_words.specs.declared.act_refusal.ActRefusal.{ActRefusal}
use Rattle.room_words.specs.declared.act_refusal.ActRefusal.TheVariants as refusal
use Rattle.room_words.specs.declared.anchor.Anchor.{Anchor}
use Rattle.room_words.specs.declared.items.TempItem.{TempItem}
use Rattle.room_words.specs.declared.items.TempItem.TheVariants as item
use Rattle.room_words.specs.declared.overlay.Overlay.{Overlay}
use Rattle.increment.specs.Touched.{item_places, item_stars, touched_places, touched_stars}
use Rattle.increment.proofs.ItemParts.{AreCompared, no_part_at, no_part_in}
use Rattle.increment.proofs.Moved.{IsFresh, but_item, nothing_removed, placed_more, removed_more, with_item}
use Rattle.increment.proofs.OneMore.{AreSubjects, agrees_at_other_places, agrees_but_for_item}
use Rattle.increment.proofs.Places.{AgreeAt, agree_back}
use Rattle.increment.proofs.Positions.{in_force, positions_agree, put_agrees, released_agrees}
use Rattle.increment.proofs.Stars.{AgreeOn, HasSameStar, ListOwn, same_star, turned_round}
use Rattle.increment.proofs.Turned.{turned_agrees, turned_agrees_at, with_turn}

-- ---- the identifier of an item that an accepted act places is fresh

none_holds : {X : Type 0} (found : List (Option X)) → first (filter_map (λ (one : Option X). one) found) ≡ None → AllByRecursion (λ (one : Option X). one ≡ None) found
none_holds [] none = tt
none_holds (None ∷ found) none = (refl, none_holds found none)
none_holds (Some x ∷ found) none = absurd cc

pub not_taken : (m : List Statement) (o : Overlay) (a : Act) → refusal_of m o a ≡ None → taken m o a ≡ None
not_taken m o a none = (none_holds (refusals m o a) none).1.0

passes : (b : Bool) (why : ActRefusal) → refused_if b why ≡ None → b ≡ false
passes true why none = absurd cc
passes false why none = refl

fresh : (m : List Statement) (o : Overlay) (one : TempItem) → refused_if (is_taken m o (item_number one)) (refusal.Taken (item_id one)) ≡ None → IsFresh m o one
fresh m o one none =
    let neither = or_parts (is_subject m (item_number one)) (is_some (item_of o (item_number one))) (passes (is_taken m o (item_number one)) (refusal.Taken (item_id one)) none) in
    record { unspoken = neither.0; unheld = none_from_false (item_of o (item_number one)) neither.1 }

-- ---- stars

-- what every model has: owners list their own terminals, and the subjects are listed
pub record Lists (m : List Statement) : Type 0 where
  pub own : ListOwn m
  pub subjects : AreSubjects m

switched_if : (m : List Statement) (o : Overlay) (id : Id) (is_open : Bool) (x : ℕ) (found : Option TempItem) → ¬ (x ≡ id.number)
    → AgreeOn m o (cond (is_some found) (with_turn o id.number is_open) (in_force o (with_position id is_open o.positions))) x
switched_if m o id is_open x (Some one) other = turned_agrees m o id.number is_open x other
switched_if m o id is_open x None other = put_agrees m o id is_open x other

switched_star : (m : List Statement) (o : Overlay) (id : Id) (is_open : Bool) (x : ℕ) → ListOwn m → ¬ (Among (id.number ∷ []) x) → HasSameStar m o (switched o id is_open) x
switched_star m o id is_open x own none = same_star m o (switched o id is_open) x own (switched_if m o id is_open x (item_of o id.number) (λ same. none (inl (sym same))))

removed_star : (m : List Statement) (o : Overlay) (n x : ℕ) (found : Option TempItem) → Lists m → Stands m o → item_of o n ≡ found → ¬ (Among (option_map_or item_stars found []) x) → HasSameStar m o (but_item o n) x
removed_star m o n x None lists stands is none = subst (λ (p : Overlay). HasSameStar m o p x) (sym (nothing_removed o n is)) (record { live = refl; made_of = refl })
removed_star m o n x (Some one) lists stands is none =
    same_star m o (but_item o n) x lists.own (agrees_but_for_item m (but_item o n) o one x lists.subjects (removed_more m o n one stands is) (no_part_in one x none))

placed_star : (m : List Statement) (o : Overlay) (one : TempItem) (x : ℕ) → Lists m → IsFresh m o one → ¬ (Among (item_stars one) x) → HasSameStar m o (with_item o one) x
placed_star m o one x lists fresh none =
    turned_round m (with_item o one) o x
    (same_star m (with_item o one) o x lists.own (agrees_but_for_item m o (with_item o one) one x lists.subjects (placed_more m o one fresh) (no_part_in one x none)))

pub other_stars_stay : (m : List Statement) (o : Overlay) (a : Act) (x : ℕ) → Lists m → Stands m o → taken m o a ≡ None → ¬ (Among (touched_stars o a) x) → HasSameStar m o (effect o a) x
other_stars_stay m o (act.OpenSwitch id) x lists stands free none = switched_star m o id true x lists.own none
other_stars_stay m o (act.CloseSwitch id) x lists stands free none = switched_star m o id false x lists.own none
other_stars_stay m o (act.Release id) x lists stands free none =
    same_star m o (in_force o (without_position id.number o.positions)) x lists.own (released_agrees m o id.number x (λ same. none (inl (sym same))))
other_stars_stay m o (act.Remove id) x lists stands free none = removed_star m o id.number x (item_of o id.number) lists stands refl none
other_stars_stay m o (act.Cut id segment at) x lists stands free none = let one = item.Cut id segment at true in placed_star m o one x lists (fresh m o one free) none
other_stars_stay m o (act.Clamp id segment at) x lists stands free none = let one = item.Clamp id segment at in placed_star m o one x lists (fresh m o one free) none
other_stars_stay m o (act.Jumper id first second phases) x lists stands free none =
    let one = item.Jumper id first second phases false in
    placed_star m o one x lists (fresh m o one free) none
other_stars_stay m o (act.Ground id at phases) x lists stands free none = let one = item.Ground id at phases in placed_star m o one x lists (fresh m o one free) none

-- ---- places

switched_places : (o : Overlay) (id : Id) (is_open : Bool) (place : Anchor) (found : Option TempItem)
    → AgreeAt o (cond (is_some found) (with_turn o id.number is_open) (in_force o (with_position id is_open o.positions))) place
switched_places o id is_open place (Some one) = turned_agrees_at o id.number is_open place
switched_places o id is_open place None = positions_agree o (with_position id is_open o.positions) place

removed_places : (m : List Statement) (o : Overlay) (n : ℕ) (place : Anchor) (found : Option TempItem) → AreCompared → Stands m o → item_of o n ≡ found → ¬ (Among (option_map_or item_places found []) place)
    → AgreeAt o (but_item o n) place
removed_places m o n place None compared stands is none = subst (λ (p : Overlay). AgreeAt o p place) (sym (nothing_removed o n is)) (record { made = refl; terms = refl })
removed_places m o n place (Some one) compared stands is none = agrees_at_other_places m (but_item o n) o one place (removed_more m o n one stands is) (no_part_at one place compared none)

placed_places : (m : List Statement) (o : Overlay) (one : TempItem) (place : Anchor) → AreCompared → IsFresh m o one → ¬ (Among (item_places one) place) → AgreeAt o (with_item o one) place
placed_places m o one place compared fresh none =
    agree_back (with_item o one) o place (agrees_at_other_places m o (with_item o one) one place (placed_more m o one fresh) (no_part_at one place compared none))

pub other_places_stay : (m : List Statement) (o : Overlay) (a : Act) (place : Anchor) → AreCompared → Stands m o → taken m o a ≡ None → ¬ (Among (touched_places o a) place) → AgreeAt o (effect o a) place
other_places_stay m o (act.OpenSwitch id) place compared stands free none = switched_places o id true place (item_of o id.number)
other_places_stay m o (act.CloseSwitch id) place compared stands free none = switched_places o id false place (item_of o id.number)
other_places_stay m o (act.Release id) place compared stands free none = positions_agree o (without_position id.number o.positions) place
other_places_stay m o (act.Remove id) place compared stands free none = removed_places m o id.number place (item_of o id.number) compared stands refl none
other_places_stay m o (act.Cut id segment at) place compared stands free none = let one = item.Cut id segment at true in placed_places m o one place compared (fresh m o one free) none
other_places_stay m o (act.Clamp id segment at) place compared stands free none = let one = item.Clamp id segment at in placed_places m o one place compared (fresh m o one free) none
other_places_stay m o (act.Jumper id first second phases) place compared stands free none =
    let one = item.Jumper id first second phases false in
    placed_places m o one place compared (fresh m o one free) none
other_places_stay m o (act.Ground id at phases) place compared stands free none = let one = item.Ground id at phases in placed_places m o one place compared (fresh m o one free) none
