-- A position is put in force or taken away: each still has a switch of its own, and they still ascend.
use Rattle.std.proofs.Common.{◌≡◌, ℕ, ◌+◌, ◌<◌, inl, inr, List, ◌∷◌, map, Bool, true, not, ◌==◌, nat_lt, Contains, refl, ◌∙◌, subst, arith}
use Rattle.std.specs.List.{AllPairs, filter}
use Rattle.std.specs.List.Sorted.{IsStrictlyIncreasing}
use Rattle.std.proofs.lemmas.Bool.Decides.{nat_tests}
use Rattle.std.proofs.lemmas.List.Kept.{AllPairs-cons, AllPairs-filter, AllPairs-from_increasing}
use Rattle.cim_words.specs.Groups.{is_switch}
use Rattle.cim_words.specs.declared.identifier.Id.{Id}
use Rattle.cim_words.specs.declared.statement.Statement.{Statement}
use Rattle.cim_model.specs.Effects.{with_position, without_position}
use Rattle.cim_model.specs.Live.{is_place}
use Rattle.cim_model.specs.Model.{is_of}
use Rattle.cim_model.specs.Stands.{ItemStands, PositionStands, Stands}
use Rattle.room_words.specs.Overlay.{position_number}
use Rattle.room_words.specs.declared.anchor.Anchor.{Anchor}
use Rattle.room_words.specs.declared.anchor.Anchor.TheVariants as anchor
use Rattle.room_words.specs.declared.items.TempItem.{TempItem}
use Rattle.room_words.specs.declared.overlay.Overlay.{Overlay}
use Rattle.room_words.specs.declared.overlay.Position.{Position}
use Rattle.act_laws.proofs.Still.{still}
use Rattle.plain_laws.proofs.Each.{all_from_among}
use Rattle.plain_laws.proofs.Members.{among_contained, among_either, contains_among, filter_among, among_filter_passes}
use Rattle.plain_laws.proofs.Pairs.{pairs_map, pairs_read, pairs_append}

abbrev pub in_force : Overlay → List Position → Overlay
in_force o positions = record { items = o.items; positions = positions }

-- ---- nothing that an item needs rests on a position

place_is : (m : List Statement) (o : Overlay) (positions : List Position) (place : Anchor) → is_place m (in_force o positions) place ≡ is_place m o place
place_is m o positions (anchor.Node n) = refl
place_is m o positions (anchor.Side id number) = refl

item_stands : (m : List Statement) (o : Overlay) (positions : List Position) (one : TempItem) → ItemStands m o one → ItemStands m (in_force o positions) one
item_stands m o positions one stands =
    still m o (in_force o positions) one (record { few = λ x few. few; apart = λ x apart. apart })
    (λ place there before. record { is = place_is m o positions place ∙ before.is; few = before.few }) stands

-- other positions stand with the same items where each of them does and they ascend
pub positions_stand : (m : List Statement) (o : Overlay) (positions : List Position) → Stands m o → ((position : Position) → Contains positions position → PositionStands m position)
    → IsStrictlyIncreasing (map position_number positions) → Stands m (in_force o positions)
positions_stand m o positions stands each ascend = record {
  items = λ one there. item_stands m o positions one (stands.items one there);
  positions = each;
  identifiers = stands.identifiers;
  switches = ascend;
  jumpers = stands.jumpers;
  phased = stands.phased;
  few = stands.few;
}

-- ---- positions that ascend

abbrev Below : Position → Position → Type 0
Below a b = position_number a < position_number b

ascending : (positions : List Position) → IsStrictlyIncreasing (map position_number positions) → AllPairs Below positions
ascending positions ascend = pairs_read (λ (a b : ℕ). a < b) position_number positions (AllPairs-from_increasing (map position_number positions) ascend)

ascend_by : (numbers : List ℕ) → AllPairs (λ (a b : ℕ). a < b) numbers → IsStrictlyIncreasing numbers
ascend_by numbers pairs k below = pairs k (k + 1) 0 (omega arith) below

ascended : (positions : List Position) → AllPairs Below positions → IsStrictlyIncreasing (map position_number positions)
ascended positions pairs = ascend_by (map position_number positions) (pairs_map (λ (a b : ℕ). a < b) position_number positions pairs)

-- ---- one is put in force

under : (m n : ℕ) → nat_lt m n ≡ true → m < n
under m n is = grind (arith, nat_tests)

abbrev lesser : Id → Position → Bool
lesser switch one = nat_lt (position_number one) switch.number

abbrev greater : Id → Position → Bool
greater switch one = nat_lt switch.number (position_number one)

abbrev put : Id → Bool → Position
put switch is_open = record { switch = switch; is_open = is_open }

put_ascends : (switch : Id) (is_open : Bool) (positions : List Position) → AllPairs Below positions → AllPairs Below (with_position switch is_open positions)
put_ascends switch is_open positions pairs =
    pairs_append Below (filter (lesser switch) positions) (put switch is_open ∷ filter (greater switch) positions) (AllPairs-filter Below (lesser switch) positions pairs)
    (AllPairs-cons Below (put switch is_open) (filter (greater switch) positions)
    (all_from_among (Below (put switch is_open)) (filter (greater switch) positions) (λ b there. under switch.number (position_number b) (among_filter_passes (greater switch) positions b there)))
    (AllPairs-filter Below (greater switch) positions pairs))
    (λ a b here there.
    let low : position_number a < switch.number = under (position_number a) switch.number (among_filter_passes (lesser switch) positions a here) in
    elim there [
      | inl same ↦ subst (λ (b : Position). position_number a < position_number b) same low
      | inr later ↦ (let high : switch.number < position_number b = under switch.number (position_number b) (among_filter_passes (greater switch) positions b later) in omega (arith, low, high))
    ])

put_each : (m : List Statement) (switch : Id) (is_open : Bool) (positions : List Position) → is_of m is_switch switch.number ≡ true
    → ((position : Position) → Contains positions position → PositionStands m position) → (position : Position) → Contains (with_position switch is_open positions) position → PositionStands m position
put_each m switch is_open positions is each position there =
    elim (among_either (filter (lesser switch) positions) (put switch is_open ∷ filter (greater switch) positions) position (among_contained (with_position switch is_open positions) position there)) [
      | inl before ↦ each position (contains_among positions position (filter_among (lesser switch) positions position before))
      | inr (inl same) ↦ subst (PositionStands m) same is
      | inr (inr after) ↦ each position (contains_among positions position (filter_among (greater switch) positions position after))
    ]

pub put_overlay : (m : List Statement) (o : Overlay) (switch : Id) (is_open : Bool) → is_of m is_switch switch.number ≡ true → Stands m o → Stands m (in_force o (with_position switch is_open o.positions))
put_overlay m o switch is_open is stands =
    positions_stand m o (with_position switch is_open o.positions) stands (put_each m switch is_open o.positions is stands.positions)
    (ascended (with_position switch is_open o.positions) (put_ascends switch is_open o.positions (ascending o.positions stands.switches)))

-- ---- one is taken away

pub released_overlay : (m : List Statement) (o : Overlay) (x : ℕ) → Stands m o → Stands m (in_force o (without_position x o.positions))
released_overlay m o x stands =
    let others : Position → Bool = λ (one : Position). not (position_number one == x) in
    positions_stand m o (without_position x o.positions) stands
    (λ position there. stands.positions position (contains_among o.positions position (filter_among others o.positions position (among_contained (without_position x o.positions) position there))))
    (ascended (without_position x o.positions) (AllPairs-filter Below others o.positions (ascending o.positions stands.switches)))
