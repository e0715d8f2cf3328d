-- An item that can be placed stands at the end, and all other items still stand.
use Rattle.std.proofs.Common.{◌≡◌, ℕ, ◌<◌, ◌≤◌, inl, inr, List, [], ◌∷◌, ◌++◌, map, length, false, ◌==◌, nat_eq, None, IfSome, Contains, sym, subst, arith, length-append}
use Rattle.std.specs.List.{IsDistinct, list_any}
use Rattle.std.proofs.lemmas.Bool.Decides.{nat_tests}
use Rattle.std.proofs.lemmas.Cmp.{nat_eq_equiv}
use Rattle.std.proofs.lemmas.List.{map-append}
use Rattle.std.proofs.lemmas.Map.Keys.{IsDistinct-push}
use Rattle.cim_words.specs.Limits.{most_marks}
use Rattle.cim_words.specs.declared.phases.PhaseSet.{PhaseSet}
use Rattle.cim_words.specs.declared.statement.Statement.{Statement}
use Rattle.cim_words.specs.Phases.{has_no_phase}
use Rattle.cim_model.specs.Live.{item_segment_number}
use Rattle.cim_model.specs.Marks.{marks_on}
use Rattle.cim_model.specs.Stands.{AreApart, ItemStands, Stands}
use Rattle.cim_model.proofs.LiveMarks.{live_marks}
use Rattle.cim_model.proofs.OverlayItems.{IsLive}
use Rattle.room_words.specs.Items.{anchors, item_number, item_phases}
use Rattle.room_words.specs.Overlay.{item_of}
use Rattle.room_words.specs.Terms.{same_anchor}
use Rattle.room_words.specs.declared.anchor.Anchor.{Anchor}
use Rattle.room_words.specs.declared.items.TempItem.{TempItem}
use Rattle.room_words.specs.declared.overlay.Overlay.{Overlay}
use Rattle.act_laws.proofs.Passed.{CanBePlaced}
use Rattle.act_laws.proofs.Still.{still}
use Rattle.act_laws.proofs.PlacedMarks.{bears, with_item}
use Rattle.act_laws.proofs.PlacedTerms.{takes}
use Rattle.plain_laws.proofs.Members.{among_contained, among_either, contains_among, map_among}
use Rattle.plain_laws.proofs.Options.{find_none, if_some_always, if_some_follows}
use Rattle.plain_laws.proofs.Tests.{among_none}

-- ---- the items

live_apart : (m : List Statement) (o : Overlay) (x : ℕ) → IsLive m o → AreApart (marks_on m o x)
live_apart m o x live = (live_marks m o x live).apart

placed_stands : (m : List Statement) (o : Overlay) (one : TempItem) → IsLive m o → CanBePlaced m o one → ItemStands m (with_item o one) one
placed_stands m o one live can =
    let bearing = bears m o one can in
    let taking = λ (place : Anchor) (there : Contains (anchors one) place).
    let here = among_contained (anchors one) place there in
    takes m o one place live.places can (record { is = can.places place here; few = let room = can.takes place here in omega (arith, room) }) in
    record {
      identifier = can.unspoken;
      segment = can.segment;
      lies = can.lies;
      few = if_some_follows (λ (x : ℕ). length (marks_on m o x) < most_marks) (λ (x : ℕ). length (marks_on m (with_item o one) x) ≤ most_marks) (item_segment_number one)
          (λ x room. bearing.few x (omega (arith, room))) can.marks;
      apart = if_some_always (λ (x : ℕ). AreApart (marks_on m (with_item o one) x)) (item_segment_number one) (λ x. bearing.apart x (live_apart m o x live));
      places = λ place there. (taking place there).is;
      crowds = λ place there. (taking place there).few;
    }

-- what holds of each item that there was and of this one holds of each
each_of : (P : TempItem → Type 0) (items : List TempItem) (one : TempItem) → ((other : TempItem) → Contains items other → P other) → P one → (other : TempItem) → Contains (items ++ one ∷ []) other → P other
each_of P items one others own other there = elim (among_either items (one ∷ []) other (among_contained (items ++ one ∷ []) other there)) [
  | inl before ↦ others other (contains_among items other before)
  | inr (inl same) ↦ subst P same own
  | inr (inr none) ↦ absurd none
]

-- ---- their identifiers

differ : (m n : ℕ) → (m == n) ≡ false → nat_eq n m ≡ false
differ m n is = grind (arith, nat_tests)

other_numbers : (o : Overlay) (n : ℕ) → item_of o n ≡ None → list_any (nat_eq n) (map item_number o.items) ≡ false
other_numbers o n fresh = among_none (nat_eq n) (map item_number o.items) (λ k there.
    let from = map_among item_number o.items k there in
    subst (λ (k : ℕ). nat_eq n k ≡ false) from.2 (differ (item_number from.0) n (find_none (λ (one : TempItem). item_number one == n) o.items from.0 fresh from.1)))

-- ---- an overlay with one more item

pub placed_overlay : (m : List Statement) (o : Overlay) (one : TempItem) → IsLive m o → CanBePlaced m o one → Stands m (with_item o one)
placed_overlay m o one live can = record {
  items = each_of (ItemStands m (with_item o one)) o.items one (λ other there. still m o (with_item o one) other (bears m o one can) (λ place has before. takes m o one place live.places can before) (live.stands.items other there))
      (placed_stands m o one live can);
  positions = live.stands.positions;
  identifiers = subst (IsDistinct nat_eq) (sym (map-append item_number o.items (one ∷ [])))
      (IsDistinct-push nat_eq_equiv (map item_number o.items) (item_number one) live.stands.identifiers (other_numbers o (item_number one) can.fresh));
  switches = live.stands.switches;
  jumpers = each_of (λ (other : TempItem). IsDistinct same_anchor (anchors other)) o.items one live.stands.jumpers can.different;
  phased = each_of (λ (other : TempItem). IfSome (item_phases other) (λ (phases : PhaseSet). has_no_phase phases ≡ false)) o.items one live.stands.phased can.phased;
  few = let long = length-append o.items (one ∷ []) in let room = can.space in omega (arith, long, room);
}
