-- An overlay stands exactly where it passes the tests.
use Rattle.std.proofs.Common.{◌≡◌, ℕ, ◌≤◌, inl, inr, List, [], ◌∷◌, map, length, true, false, not, ◌==◌, nat_eq, nat_le, IsTrue, Option, Some, None, IfSome, Contains, refl, ap}
use Rattle.std.specs.List.{list_all, IsDistinct}
use Rattle.std.proofs.lemmas.Bool.{and_from, eqb-true, le-leb, leb-true, not-true, not_from_false}
use Rattle.std.proofs.lemmas.Option.{IfSome_then}
use Rattle.plain_laws.proofs.Each.{each_among}
use Rattle.plain_laws.proofs.Members.{Among, among_contained, contains_among, contains_nothing}
use Rattle.plain_laws.proofs.Tests.{all_among, among_all}
use Rattle.plain_laws.proofs.Truth.{and_first, and_from_three, and_second, and_three}
use Rattle.cim_words.specs.Groups.{is_segment}
use Rattle.cim_words.specs.Phases.{has_no_phase}
use Rattle.cim_words.specs.declared.phases.PhaseSet.{PhaseSet}
use Rattle.cim_words.specs.declared.statement.Statement.{Statement}
use Rattle.cim_words.specs.Limits.{most_at_place, most_length, most_marks}
use Rattle.cim_model.specs.Live.{is_place, item_segment_number, terms_at}
use Rattle.cim_model.specs.Marks.{marks_of, marks_on}
use Rattle.cim_model.specs.Model.{is_of, is_subject}
use Rattle.cim_model.specs.Network.{length_in}
use Rattle.cim_model.specs.Stands.{AreApart, ItemStands, LiesOn, Stands}
use Rattle.room_words.specs.Items.{anchors, item_length, item_number, item_phases}
use Rattle.room_words.specs.Terms.{same_anchor}
use Rattle.room_words.specs.declared.anchor.Anchor.{Anchor}
use Rattle.room_words.specs.declared.items.TempItem.{TempItem}
use Rattle.room_words.specs.declared.items.TempItem.TheVariants as item
use Rattle.room_words.specs.declared.overlay.Overlay.{Overlay}
use Rattle.temporary.specs.Parts.{Passes, bears, does_stand, finds, is_alone, is_apart, is_apart_at_home, is_borne, is_good, is_of_switch, is_sound, lies_on, takes}
use Rattle.temporary.proofs.Alone.{alone_items, distinct_items}
use Rattle.temporary.proofs.Apart.{apart_anywhere, apart_each, apart_marks}
use Rattle.temporary.proofs.Tests.{passes_there, there_passes}

-- ---- a test and its contrary

-- ---- a segment that bears a mark

pub record Bears (m : List Statement) (o : Overlay) (x at : ℕ) : Type 0 where
  pub segment : is_of m is_segment x ≡ true
  pub lies : LiesOn m x at
  pub few : length (marks_on m o x) ≤ most_marks

lies : (m : List Statement) (x at : ℕ) → lies_on m x at ≡ true → LiesOn m x at
lies m x at is = record {
  limit = leb-true at most_length (and_first _ _ is);
  stated = there_passes (λ (limit : ℕ). nat_le at limit) (λ (limit : ℕ). at ≤ limit) (length_in m x) (λ limit. leb-true at limit) (and_second (nat_le at most_length) _ is);
}

on_it : (m : List Statement) (x at : ℕ) → LiesOn m x at → lies_on m x at ≡ true
on_it m x at lies =
    and_from _ _ (le-leb at most_length lies.limit) (passes_there (λ (limit : ℕ). nat_le at limit) (λ (limit : ℕ). at ≤ limit) (length_in m x) (λ limit. le-leb at limit) lies.stated)

borne : (m : List Statement) (o : Overlay) (x at : ℕ) → bears m o x at ≡ true → Bears m o x at
borne m o x at is =
    let parts = and_three (is_of m is_segment x) (lies_on m x at) (nat_le (length (marks_on m o x)) most_marks) is in
    record { segment = parts.0; lies = lies m x at parts.1; few = leb-true _ most_marks parts.2 }

bearing : (m : List Statement) (o : Overlay) (x at : ℕ) → Bears m o x at → bears m o x at ≡ true
bearing m o x at is = and_from_three (is_of m is_segment x) (lies_on m x at) (nat_le (length (marks_on m o x)) most_marks) is.segment (on_it m x at is.lies) (le-leb _ most_marks is.few)

-- ---- a place that takes a terminal

abbrev Takes : List Statement → Overlay → Anchor → Type 0
Takes m o place = (is_place m o place ≡ true) × (length (terms_at m o place) ≤ most_at_place)

taken : (m : List Statement) (o : Overlay) (place : Anchor) → takes m o place ≡ true → Takes m o place
taken m o place is = (and_first (is_place m o place) _ is, leb-true _ most_at_place (and_second (is_place m o place) _ is))

taking : (m : List Statement) (o : Overlay) (place : Anchor) → Takes m o place → takes m o place ≡ true
taking m o place is = and_from (is_place m o place) _ is.0 (le-leb _ most_at_place is.1)

-- ---- what an item finds

pub record Finds (m : List Statement) (o : Overlay) (one : TempItem) : Type 0 where
  pub bears : IfSome (item_segment_number one) (λ (x : ℕ). Bears m o x (item_length one))
  pub takes : (place : Anchor) → Contains (anchors one) place → Takes m o place

found : (m : List Statement) (o : Overlay) (one : TempItem) → finds m o one ≡ true → Finds m o one
found m o (item.Cut id segment at is_open) is = record { bears = borne m o segment.number at.mm is; takes = λ place there. contains_nothing place there }
found m o (item.Clamp id segment at) is = record { bears = borne m o segment.number at.mm is; takes = λ place there. contains_nothing place there }
found m o (item.Jumper id first second phases is_open) is = record {
  bears = tt;
  takes = λ place there. each_among (Takes m o) (first ∷ second ∷ []) place (taken m o first (and_first (takes m o first) _ is), (taken m o second (and_second (takes m o first) _ is), tt)) (among_contained (first ∷ second ∷ []) place there);
}
found m o (item.Ground id at phases) is = record { bears = tt; takes = λ place there. each_among (Takes m o) (at ∷ []) place (taken m o at is, tt) (among_contained (at ∷ []) place there) }

finding : (m : List Statement) (o : Overlay) (one : TempItem) → Finds m o one → finds m o one ≡ true
finding m o (item.Cut id segment at is_open) is = bearing m o segment.number at.mm is.bears
finding m o (item.Clamp id segment at) is = bearing m o segment.number at.mm is.bears
finding m o (item.Jumper id first second phases is_open) is =
    and_from (takes m o first) _ (taking m o first (is.takes first (contains_among (first ∷ second ∷ []) first (inl refl))))
    (taking m o second (is.takes second (contains_among (first ∷ second ∷ []) second (inr (inl refl)))))
finding m o (item.Ground id at phases) is = taking m o at (is.takes at (contains_among (at ∷ []) at (inl refl)))

-- ---- an item that is sound

abbrev Sound : TempItem → Type 0
Sound one = IsDistinct same_anchor (anchors one) × IfSome (item_phases one) (λ (phases : PhaseSet). has_no_phase phases ≡ false)

sound : (one : TempItem) → is_sound one ≡ true → Sound one
unfolding IsDistinct
sound (item.Cut id segment at is_open) is = (tt, tt)
sound (item.Clamp id segment at) is = (tt, tt)
sound (item.Jumper id first second phases is_open) is =
    (((not-true (same_anchor first second) (and_first _ _ is), tt), (tt, tt)), not-true (has_no_phase phases) (and_second (not (same_anchor first second)) _ is))
sound (item.Ground id at phases) is = ((tt, tt), not-true (has_no_phase phases) is)

sounding : (one : TempItem) → Sound one → is_sound one ≡ true
unfolding IsDistinct
sounding (item.Cut id segment at is_open) is = refl
sounding (item.Clamp id segment at) is = refl
sounding (item.Jumper id first second phases is_open) is = and_from _ _ (not_from_false (same_anchor first second) is.0.0.0) (not_from_false (has_no_phase phases) is.1)
sounding (item.Ground id at phases) is = not_from_false (has_no_phase phases) is.1

-- ---- an item that stands

some_always : {X : Type 0} (P : X → Type 0) (found : Option X) → ((x : X) → P x) → IfSome found P
some_always P None each = tt
some_always P (Some x) each = each x

pub stands : (m : List Statement) (o : Overlay) (one : TempItem) → is_borne m o one ≡ true → IfSome (item_segment_number one) (λ (x : ℕ). AreApart (marks_on m o x)) → ItemStands m o one
stands m o one is apart =
    let finds = found m o one (and_second (not (is_subject m (item_number one))) _ is) in record {
      identifier = not-true (is_subject m (item_number one)) (and_first _ _ is);
      segment = IfSome_then (item_segment_number one) finds.bears (λ x bears. bears.segment);
      lies = IfSome_then (item_segment_number one) finds.bears (λ x bears. bears.lies);
      few = IfSome_then (item_segment_number one) finds.bears (λ x bears. bears.few);
      apart = apart;
      places = λ place there. (finds.takes place there).0;
      crowds = λ place there. (finds.takes place there).1;
    }

bears_some : (m : List Statement) (o : Overlay) (one : TempItem) (found : Option ℕ) → IfSome found (λ (x : ℕ). IsTrue (is_of m is_segment x)) → IfSome found (λ (x : ℕ). LiesOn m x (item_length one))
    → IfSome found (λ (x : ℕ). length (marks_on m o x) ≤ most_marks) → IfSome found (λ (x : ℕ). Bears m o x (item_length one))
bears_some m o one None segment lies few = tt
bears_some m o one (Some x) segment lies few = record { segment = segment; lies = lies; few = few }

pub standing : (m : List Statement) (o : Overlay) (one : TempItem) → ItemStands m o one → is_borne m o one ≡ true
standing m o one stands =
    and_from _ _ (not_from_false (is_subject m (item_number one)) stands.identifier)
    (finding m o one (record { bears = bears_some m o one (item_segment_number one) stands.segment stands.lies stands.few; takes = λ place there. (stands.places place there, stands.crowds place there) }))

pub item_stands : (m : List Statement) (o : Overlay) (one : TempItem) → IsDistinct nat_eq (map item_number o.items) → ((x : ℕ) → AreApart (marks_of m x)) → does_stand m o one ≡ true → ItemStands m o one
item_stands m o one distinct model is =
    stands m o one (and_first (is_borne m o one) _ is)
    (there_passes (λ (x : ℕ). list_all (is_apart m o x) o.items) (λ (x : ℕ). AreApart (marks_on m o x)) (item_segment_number one)
    (λ x all. apart_marks m o x distinct (model x) (all_among (is_apart m o x) o.items all)) (and_second (is_borne m o one) _ is))

pub item_passes : (m : List Statement) (o : Overlay) (one : TempItem) → ItemStands m o one → does_stand m o one ≡ true
item_passes m o one is =
    and_from (is_borne m o one) _ (standing m o one is)
    (passes_there (λ (x : ℕ). list_all (is_apart m o x) o.items) (λ (x : ℕ). AreApart (marks_on m o x)) (item_segment_number one) (λ x apart. among_all (is_apart m o x) o.items (apart_each m o x apart)) is.apart)

-- ---- an overlay that stands

pub overlay_stands : (m : List Statement) (o : Overlay) → ((x : ℕ) → AreApart (marks_of m x)) → Passes m o → Stands m o
overlay_stands m o model passes =
    let distinct = distinct_items o.items (λ one there. eqb-true _ 1 (all_among (is_alone o.items) o.items passes.alone one there)) in
    let good = λ (one : TempItem) (there : Among o.items one). and_three (is_sound one) (is_borne m o one) (is_apart_at_home m o one) (all_among (is_good m o) o.items passes.good one there) in
    let apart = λ (x : ℕ). apart_marks m o x distinct (model x) (λ one there. apart_anywhere m o x one (good one there).2) in record {
      items = λ one there. stands m o one (good one (among_contained o.items one there)).1 (some_always (λ (x : ℕ). AreApart (marks_on m o x)) (item_segment_number one) apart);
      positions = λ position there. all_among (is_of_switch m) o.positions passes.switches position (among_contained o.positions position there);
      identifiers = distinct;
      switches = passes.ascend;
      jumpers = λ one there. (sound one (good one (among_contained o.items one there)).0).0;
      phased = λ one there. (sound one (good one (among_contained o.items one there)).0).1;
      few = passes.few;
    }

pub overlay_passes : (m : List Statement) (o : Overlay) → Stands m o → Passes m o
overlay_passes m o stands = record {
  few = stands.few;
  alone = among_all (is_alone o.items) o.items (λ one there. ap (λ (n : ℕ). n == 1) (alone_items o.items stands.identifiers one there));
  switches = among_all (is_of_switch m) o.positions (λ position there. stands.positions position (contains_among o.positions position there));
  ascend = stands.switches;
  good = among_all (is_good m o) o.items (λ one there.
      let here = stands.items one (contains_among o.items one there) in
      and_from_three (is_sound one) (is_borne m o one) (is_apart_at_home m o one) (sounding one (stands.jumpers one (contains_among o.items one there), stands.phased one (contains_among o.items one there)))
      (standing m o one here)
      (passes_there (λ (x : ℕ). is_apart m o x one) (λ (x : ℕ). AreApart (marks_on m o x)) (item_segment_number one) (λ x apart. apart_each m o x apart one there) here.apart));
}
