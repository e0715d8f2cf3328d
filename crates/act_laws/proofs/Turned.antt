-- An item is turned: it keeps all but its position, so that everything stands as before.
use Rattle.std.proofs.Common.{◌≡◌, ℕ, ◌≤◌, List, [], ◌∷◌, ◌++◌, map, length, Bool, true, false, ◌||◌, ◌==◌, cond, nat_eq, Option, IfSome, Contains, refl, ap, sym, ◌∙◌, subst}
use Rattle.std.specs.List.{IsDistinct, cons_option, filter, filter_map, flat_map, list_any}
use Rattle.std.proofs.lemmas.List.{length-map}
use Rattle.cim_words.specs.Limits.{most_at_place, most_items, most_marks}
use Rattle.cim_words.specs.Phases.{has_no_phase}
use Rattle.cim_words.specs.declared.phases.PhaseSet.{PhaseSet}
use Rattle.cim_words.specs.declared.statement.Statement.{Statement}
use Rattle.cim_model.specs.Effects.{turned, with_turned}
use Rattle.cim_model.specs.Live.{is_place, real_terms_at}
use Rattle.cim_model.specs.Marks.{is_item_on, item_mark, marks_of, marks_on}
use Rattle.cim_model.specs.Stands.{AreApart, ItemStands, Stands}
use Rattle.room_words.specs.Items.{anchors, item_number, item_phases, item_terms_at, makes}
use Rattle.room_words.specs.Terms.{same_anchor}
use Rattle.room_words.specs.declared.anchor.Anchor.{Anchor}
use Rattle.room_words.specs.declared.anchor.Anchor.TheVariants as anchor
use Rattle.room_words.specs.declared.items.TempItem.{TempItem}
use Rattle.room_words.specs.declared.items.TempItem.TheVariants as item
use Rattle.room_words.specs.declared.overlay.Overlay.{Overlay}
use Rattle.segment_cuts.specs.declared.mark.Mark.{Mark}
use Rattle.act_laws.proofs.Still.{Bears, Takes, still}
use Rattle.plain_laws.proofs.Members.{among_contained, contains_among, map_among}

abbrev pub with_turn : Overlay → ℕ → Bool → Overlay
with_turn o x is_open = record { items = with_turned x is_open o.items; positions = o.positions }

abbrev turn : ℕ → Bool → TempItem → TempItem
turn x is_open one = cond (item_number one == x) (turned is_open one) one

-- ---- what an item keeps

pub record Alike (one two : TempItem) : Type 0 where
  pub number : item_number two ≡ item_number one
  pub on : (x : ℕ) → is_item_on x two ≡ is_item_on x one
  pub mark : item_mark two ≡ item_mark one
  pub terms : (place : Anchor) → item_terms_at place two ≡ item_terms_at place one
  pub makes : (place : Anchor) → makes place two ≡ makes place one

itself : (one : TempItem) → Alike one one
itself one = record { number = refl; on = λ x. refl; mark = refl; terms = λ place. refl; makes = λ place. refl }

turned_alike : (is_open : Bool) (one : TempItem) → Alike one (turned is_open one)
turned_alike is_open (item.Cut id segment at was) = record { number = refl; on = λ x. refl; mark = refl; terms = λ place. refl; makes = λ place. refl }
turned_alike is_open (item.Clamp id segment at) = itself (item.Clamp id segment at)
turned_alike is_open (item.Jumper id first second phases was) = record { number = refl; on = λ x. refl; mark = refl; terms = λ place. refl; makes = λ place. refl }
turned_alike is_open (item.Ground id at phases) = itself (item.Ground id at phases)

alike_if : (b is_open : Bool) (one : TempItem) → Alike one (cond b (turned is_open one) one)
alike_if true is_open one = turned_alike is_open one
alike_if false is_open one = itself one

alike : (x : ℕ) (is_open : Bool) (one : TempItem) → Alike one (turn x is_open one)
alike x is_open one = alike_if (item_number one == x) is_open one

-- ---- so the lists that are made of items are the same

marks_if : (b : Bool) (one : TempItem) (kept : List TempItem) → filter_map item_mark (cond b (one ∷ kept) kept) ≡ cond b (cons_option (item_mark one) (filter_map item_mark kept)) (filter_map item_mark kept)
marks_if true one kept = refl
marks_if false one kept = refl

abbrev marked : Bool → Option Mark → List Mark → List Mark
marked b found marks = cond b (cons_option found marks) marks

same_marks : (x : ℕ) (is_open : Bool) (y : ℕ) (items : List TempItem) → filter_map item_mark (filter (is_item_on y) (with_turned x is_open items)) ≡ filter_map item_mark (filter (is_item_on y) items)
same_marks x is_open y [] = refl
same_marks x is_open y (one ∷ items) =
    let same = alike x is_open one in
    marks_if (is_item_on y (turn x is_open one)) (turn x is_open one) (filter (is_item_on y) (with_turned x is_open items))
    ∙ ap (λ (b : Bool). marked b (item_mark (turn x is_open one)) (filter_map item_mark (filter (is_item_on y) (with_turned x is_open items)))) (same.on y)
    ∙ ap (λ (found : Option Mark). marked (is_item_on y one) found (filter_map item_mark (filter (is_item_on y) (with_turned x is_open items)))) same.mark
    ∙ ap (λ (marks : List Mark). marked (is_item_on y one) (item_mark one) marks) (same_marks x is_open y items)
    ∙ sym (marks_if (is_item_on y one) one (filter (is_item_on y) items))

same_terms : (x : ℕ) (is_open : Bool) (place : Anchor) (items : List TempItem) → flat_map (item_terms_at place) (with_turned x is_open items) ≡ flat_map (item_terms_at place) items
same_terms x is_open place [] = refl
same_terms x is_open place (one ∷ items) =
    ap (λ (terms : List _). terms ++ flat_map (item_terms_at place) (with_turned x is_open items)) ((alike x is_open one).terms place)
    ∙ ap (λ (terms : List _). item_terms_at place one ++ terms) (same_terms x is_open place items)

same_makers : (x : ℕ) (is_open : Bool) (place : Anchor) (items : List TempItem) → list_any (makes place) (with_turned x is_open items) ≡ list_any (makes place) items
same_makers x is_open place [] = refl
same_makers x is_open place (one ∷ items) =
    ap (λ (b : Bool). b || list_any (makes place) (with_turned x is_open items)) ((alike x is_open one).makes place)
    ∙ ap (λ (b : Bool). makes place one || b) (same_makers x is_open place items)

same_numbers : (x : ℕ) (is_open : Bool) (items : List TempItem) → map item_number (with_turned x is_open items) ≡ map item_number items
same_numbers x is_open [] = refl
same_numbers x is_open (one ∷ items) =
    ap (λ (n : ℕ). n ∷ map item_number (with_turned x is_open items)) (alike x is_open one).number ∙ ap (λ (numbers : List ℕ). item_number one ∷ numbers) (same_numbers x is_open items)

-- ---- and segments and places bear what they bore

marks_are : (m : List Statement) (o : Overlay) (x : ℕ) (is_open : Bool) (y : ℕ) → marks_on m (with_turn o x is_open) y ≡ marks_on m o y
marks_are m o x is_open y = ap (λ (marks : List Mark). marks_of m y ++ marks) (same_marks x is_open y o.items)

bears : (m : List Statement) (o : Overlay) (x : ℕ) (is_open : Bool) → Bears m o (with_turn o x is_open)
bears m o x is_open = record {
  few = λ y few. subst (λ (marks : List Mark). length marks ≤ most_marks) (sym (marks_are m o x is_open y)) few;
  apart = λ y apart. subst AreApart (sym (marks_are m o x is_open y)) apart;
}

place_is : (m : List Statement) (o : Overlay) (x : ℕ) (is_open : Bool) (place : Anchor) → is_place m (with_turn o x is_open) place ≡ is_place m o place
place_is m o x is_open (anchor.Node n) = refl
place_is m o x is_open (anchor.Side id number) = same_makers x is_open (anchor.Side id number) o.items

takes : (m : List Statement) (o : Overlay) (x : ℕ) (is_open : Bool) (place : Anchor) → Takes m o place → Takes m (with_turn o x is_open) place
takes m o x is_open place before = record {
  is = place_is m o x is_open place ∙ before.is;
  few = subst (λ (terms : List _). length (real_terms_at m place ++ terms) ≤ most_at_place) (sym (same_terms x is_open place o.items)) before.few;
}

-- ---- what holds of an item whatever its position

record Holds (m : List Statement) (o : Overlay) (one : TempItem) : Type 0 where
  pub stands : ItemStands m o one
  pub jumper : IsDistinct same_anchor (anchors one)
  pub phased : IfSome (item_phases one) (λ (phases : PhaseSet). has_no_phase phases ≡ false)

turned_holds : (m : List Statement) (o : Overlay) (is_open : Bool) (one : TempItem) → Holds m o one → Holds m o (turned is_open one)
turned_holds m o is_open (item.Cut id segment at was) holds = let s = holds.stands in record {
  stands = record { identifier = s.identifier; segment = s.segment; lies = s.lies; few = s.few; apart = s.apart; places = s.places; crowds = s.crowds };
  jumper = holds.jumper;
  phased = holds.phased;
}
turned_holds m o is_open (item.Clamp id segment at) holds = holds
turned_holds m o is_open (item.Jumper id first second phases was) holds = let s = holds.stands in record {
  stands = record { identifier = s.identifier; segment = s.segment; lies = s.lies; few = s.few; apart = s.apart; places = s.places; crowds = s.crowds };
  jumper = holds.jumper;
  phased = holds.phased;
}
turned_holds m o is_open (item.Ground id at phases) holds = holds

holds_if : (m : List Statement) (o : Overlay) (b is_open : Bool) (one : TempItem) → Holds m o one → Holds m o (cond b (turned is_open one) one)
holds_if m o true is_open one holds = turned_holds m o is_open one holds
holds_if m o false is_open one holds = holds

each_holds : (m : List Statement) (o : Overlay) (x : ℕ) (is_open : Bool) → Stands m o → (one : TempItem) → Contains (with_turned x is_open o.items) one → Holds m (with_turn o x is_open) one
each_holds m o x is_open stands one there =
    let from = map_among (turn x is_open) o.items one (among_contained (with_turned x is_open o.items) one there) in
    let was = contains_among o.items from.0 from.1 in
    subst (Holds m (with_turn o x is_open)) from.2 (holds_if m (with_turn o x is_open) (item_number from.0 == x) is_open from.0 (record {
      stands = still m o (with_turn o x is_open) from.0 (bears m o x is_open) (λ place at before. takes m o x is_open place before) (stands.items from.0 was);
      jumper = stands.jumpers from.0 was;
      phased = stands.phased from.0 was;
    }))

-- ---- an overlay with an item turned

pub turned_overlay : (m : List Statement) (o : Overlay) (x : ℕ) (is_open : Bool) → Stands m o → Stands m (with_turn o x is_open)
turned_overlay m o x is_open stands = record {
  items = λ one there. (each_holds m o x is_open stands one there).stands;
  positions = stands.positions;
  identifiers = subst (IsDistinct nat_eq) (sym (same_numbers x is_open o.items)) stands.identifiers;
  switches = stands.switches;
  jumpers = λ one there. (each_holds m o x is_open stands one there).jumper;
  phased = λ one there. (each_holds m o x is_open stands one there).phased;
  few = subst (λ (n : ℕ). n ≤ most_items) (sym (length-map o.items (turn x is_open))) stands.few;
}
