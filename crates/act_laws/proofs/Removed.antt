-- An item is taken away at whose sides none is anchored: all other items still stand.
use Rattle.std.proofs.Common.{◌≡◌, ◌≢◌, ℕ, ◌≤◌, List, map, length, true, false, not, ◌==◌, nat_eq, None, Contains, find, ap, ◌∙◌, arith, length-append}
use Rattle.std.specs.List.{IsDistinct, filter, flat_map}
use Rattle.std.proofs.lemmas.Bool.Decides.{Decides-eqb}
use Rattle.std.proofs.lemmas.List.Kept.{AllPairs-filter}
use Rattle.std.proofs.lemmas.Map.Made.{AllPairs-from_IsDistinct, IsDistinct-from_AllPairs}
use Rattle.cim_words.specs.declared.statement.Statement.{Statement}
use Rattle.cim_model.specs.Effects.{without_item}
use Rattle.cim_model.specs.Live.{is_place, real_terms_at, terms_at}
use Rattle.cim_model.specs.Marks.{is_item_on, item_mark, item_marks, marks_of, marks_on}
use Rattle.cim_model.specs.Refusals.{is_anchored_at, is_side_of}
use Rattle.cim_model.specs.Stands.{Stands}
use Rattle.room_words.specs.Items.{anchors, item_number, item_terms_at, makes}
use Rattle.room_words.specs.declared.anchor.Anchor.{Anchor}
use Rattle.room_words.specs.declared.anchor.Anchor.TheVariants as anchor
use Rattle.room_words.specs.declared.items.TempItem.{TempItem}
use Rattle.room_words.specs.declared.overlay.Overlay.{Overlay}
use Rattle.segment_cuts.specs.declared.mark.Mark.{Mark}
use Rattle.act_laws.proofs.Makers.{maker_number}
use Rattle.act_laws.proofs.Still.{Bears, Takes, still}
use Rattle.plain_laws.proofs.Members.{Among, among_contained, among_filter, contains_among, filter_among}
use Rattle.plain_laws.proofs.Options.{find_none}
use Rattle.plain_laws.proofs.Pairs.{pairs_map, pairs_read}
use Rattle.plain_laws.proofs.Sublists.{IsSublist, sublist_flat_length, sublist_after, sublist_filter, sublist_filter_map, sublist_filtered, sublist_length, sublist_pairs}
use Rattle.plain_laws.proofs.Tests.{among_any, any_among, none_among}

abbrev pub but_item : Overlay → ℕ → Overlay
but_item o x = record { items = without_item x o.items; positions = o.positions }

rest_part : (o : Overlay) (x : ℕ) → IsSublist (without_item x o.items) o.items
rest_part o x = sublist_filter (λ (one : TempItem). not (item_number one == x)) o.items

-- ---- marks: some of those that were there

marks_part : (m : List Statement) (o : Overlay) (x y : ℕ) → IsSublist (marks_on m (but_item o x) y) (marks_on m o y)
marks_part m o x y =
    sublist_after (marks_of m y) (item_marks (but_item o x) y) (item_marks o y)
    (sublist_filter_map item_mark (filter (is_item_on y) (without_item x o.items)) (filter (is_item_on y) o.items) (sublist_filtered (is_item_on y) (without_item x o.items) o.items (rest_part o x)))

bears : (m : List Statement) (o : Overlay) (x : ℕ) → Bears m o (but_item o x)
bears m o x = record {
  few = λ y few. let less = sublist_length (marks_on m (but_item o x) y) (marks_on m o y) (marks_part m o x y) in omega (arith, few, less);
  apart = λ y apart. sublist_pairs (λ (a b : Mark). a.length ≡ b.length → (a.divides ≡ false) × (b.divides ≡ false)) (marks_on m (but_item o x) y) (marks_on m o y) (marks_part m o x y) apart;
}

-- ---- places: those that there were, but for the sides of the item, and no more terminals at each

still_place : (m : List Statement) (o : Overlay) (x : ℕ) (place : Anchor) → is_side_of x place ≡ false → is_place m o place ≡ true → is_place m (but_item o x) place ≡ true
still_place m o x (anchor.Node n) none is = is
still_place m o x (anchor.Side id number) none is =
    let maker = any_among (makes (anchor.Side id number)) o.items is in
    let kept : not (item_number maker.0 == x) ≡ true = ap (λ (n : ℕ). not (n == x)) (maker_number maker.0 id number maker.2) ∙ ap not none in
    among_any (makes (anchor.Side id number)) (without_item x o.items) maker.0 (among_filter (λ (one : TempItem). not (item_number one == x)) o.items maker.0 maker.1 kept) maker.2

less_terms : (m : List Statement) (o : Overlay) (x : ℕ) (place : Anchor) → length (terms_at m (but_item o x) place) ≤ length (terms_at m o place)
less_terms m o x place =
    let less = sublist_flat_length (item_terms_at place) (without_item x o.items) o.items (rest_part o x) in
    let before = length-append (real_terms_at m place) (flat_map (item_terms_at place) o.items) in
    let after = length-append (real_terms_at m place) (flat_map (item_terms_at place) (without_item x o.items)) in
    omega (arith, less, before, after)

takes : (m : List Statement) (o : Overlay) (x : ℕ) (place : Anchor) → is_side_of x place ≡ false → Takes m o place → Takes m (but_item o x) place
takes m o x place none before = record {
  is = still_place m o x place none before.is;
  few = let less = less_terms m o x place in let few = before.few in omega (arith, less, few);
}

-- ---- the other items

was : (o : Overlay) (x : ℕ) (one : TempItem) → Contains (without_item x o.items) one → Among o.items one
was o x one there = filter_among (λ (one : TempItem). not (item_number one == x)) o.items one (among_contained (without_item x o.items) one there)

-- none of them is anchored at a side of the item
no_side : (o : Overlay) (x : ℕ) (one : TempItem) (place : Anchor) → find (is_anchored_at x) o.items ≡ None → Among o.items one → Contains (anchors one) place → is_side_of x place ≡ false
no_side o x one place none there at = none_among (is_side_of x) (anchors one) place (find_none (is_anchored_at x) o.items one none there) (among_contained (anchors one) place at)

identifiers : (o : Overlay) (x : ℕ) → IsDistinct nat_eq (map item_number o.items) → IsDistinct nat_eq (map item_number (without_item x o.items))
identifiers o x distinct =
    IsDistinct-from_AllPairs Decides-eqb (map item_number (without_item x o.items))
    (pairs_map (λ (a b : ℕ). a ≢ b) item_number (without_item x o.items)
    (AllPairs-filter (λ (a b : TempItem). item_number a ≢ item_number b) (λ (one : TempItem). not (item_number one == x)) o.items
    (pairs_read (λ (a b : ℕ). a ≢ b) item_number o.items (AllPairs-from_IsDistinct Decides-eqb (map item_number o.items) distinct))))

pub removed_overlay : (m : List Statement) (o : Overlay) (x : ℕ) → Stands m o → find (is_anchored_at x) o.items ≡ None → Stands m (but_item o x)
removed_overlay m o x stands none = record {
  items = λ one there.
      let before = was o x one there in
      still m o (but_item o x) one (bears m o x) (λ place at takes_it. takes m o x place (no_side o x one place none before at) takes_it) (stands.items one (contains_among o.items one before));
  positions = stands.positions;
  identifiers = identifiers o x stands.identifiers;
  switches = stands.switches;
  jumpers = λ one there. stands.jumpers one (contains_among o.items one (was o x one there));
  phased = λ one there. stands.phased one (contains_among o.items one (was o x one there));
  few = let less = sublist_length (without_item x o.items) o.items (rest_part o x) in let few = stands.few in omega (arith, less, few);
}
