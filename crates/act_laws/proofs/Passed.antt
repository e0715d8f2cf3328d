-- What an accepted act passes: none of the fourteen refusals holds, and what that says of an item that is placed.
use Rattle.std.proofs.Common.{◌≡◌, ℕ, ◌+◌, ◌<◌, ◌≤◌, List, [], ◌∷◌, length, Bool, true, false, not, ◌&&◌, nat_le, nat_lt, Option, Some, None, IfSome, is_some, option_map, refl, arith}
use Rattle.std.specs.List.{AllByRecursion, filter_map, IsDistinct, position_from}
use Rattle.std.specs.Option.{option_map_or}
use Rattle.std.proofs.lemmas.Bool.Decides.{nat_tests}
use Rattle.cim_words.specs.Groups.{is_segment}
use Rattle.cim_words.specs.Limits.{most_at_place, most_items, most_length, most_marks}
use Rattle.cim_words.specs.PhaseNames.{and_then}
use Rattle.cim_words.specs.Phases.{has_no_phase}
use Rattle.cim_words.specs.declared.identifier.Id.{Id}
use Rattle.cim_words.specs.declared.phases.PhaseSet.{PhaseSet}
use Rattle.cim_words.specs.declared.statement.Statement.{Statement}
use Rattle.cim_model.specs.Live.{is_place, item_segment_number, terms_at}
use Rattle.cim_model.specs.Marks.{marks_on}
use Rattle.cim_model.specs.Model.{is_of, is_subject}
use Rattle.cim_model.specs.Network.{first, length_in, or_else}
use Rattle.cim_model.specs.Refusals.{already, beyond, crowded, crowded_place, crowded_segment, full, in_the_way, in_use, is_beyond, is_taken, kind, marks_at, no_anchor, no_phase, not_held, not_segment, one_anchor, permanent, refusal_of, refusals, refused_if, same_place, taken, unknown}
use Rattle.cim_model.specs.Stands.{LiesOn}
use Rattle.cim_model.specs.Values.{number_of_id}
use Rattle.room_words.specs.Items.{anchors, item_id, item_length, item_number, item_phases, item_segment}
use Rattle.room_words.specs.Overlay.{item_of}
use Rattle.room_words.specs.Terms.{same_anchor}
use Rattle.room_words.specs.declared.act.Act.{Act}
use Rattle.room_words.specs.declared.act_refusal.ActRefusal.{ActRefusal}
use Rattle.room_words.specs.declared.act_refusal.ActRefusal.TheVariants as refusal
use Rattle.room_words.specs.declared.anchor.Anchor.{Anchor}
use Rattle.room_words.specs.declared.items.TempItem.{TempItem}
use Rattle.room_words.specs.declared.overlay.Overlay.{Overlay}
use Rattle.segment_cuts.specs.declared.mark.Mark.{Mark}
use Rattle.plain_laws.proofs.Members.{Among}
use Rattle.plain_laws.proofs.Options.{position_none, find_none, none_from_false, map_none}
use Rattle.std.proofs.lemmas.Bool.{or_parts}

-- where no refusal is the first that holds, none holds
no_first : {X : Type 0} (found : List (Option X)) → first (filter_map (λ (one : Option X). one) found) ≡ None → AllByRecursion (λ (one : Option X). one ≡ None) found
no_first [] none = tt
no_first (None ∷ found) none = (refl, no_first found none)
no_first (Some x ∷ found) none = absurd cc

-- ---- none of the refusals holds

pub record Passed (m : List Statement) (o : Overlay) (a : Act) : Type 0 where
  pub known : unknown m o a ≡ None
  pub free : taken m o a ≡ None
  pub fits : kind m o a ≡ None
  pub temporary : permanent m a ≡ None
  pub otherwise : already m o a ≡ None
  pub held : not_held o a ≡ None
  pub within : beyond m a ≡ None
  pub apart : same_place m o a ≡ None
  pub anchored : no_anchor m o a ≡ None
  pub different : one_anchor a ≡ None
  pub phased : no_phase a ≡ None
  pub few : crowded m o a ≡ None
  pub unused : in_use o a ≡ None
  pub space : full o a ≡ None

pub passed : (m : List Statement) (o : Overlay) (a : Act) → refusal_of m o a ≡ None → Passed m o a
passed m o a none =
    let all = no_first (refusals m o a) none in
    let later = all.1.1.1.1.1.1.1 in
    record {
      known = all.0;
      free = all.1.0;
      fits = all.1.1.0;
      temporary = all.1.1.1.0;
      otherwise = all.1.1.1.1.0;
      held = all.1.1.1.1.1.0;
      within = all.1.1.1.1.1.1.0;
      apart = later.0;
      anchored = later.1.0;
      different = later.1.1.0;
      phased = later.1.1.1.0;
      few = later.1.1.1.1.0;
      unused = later.1.1.1.1.1.0;
      space = later.1.1.1.1.1.1.0;
    }

-- ---- a test that refuses nothing

pub not_refused : (b : Bool) (why : ActRefusal) → refused_if b why ≡ None → b ≡ false
not_refused true why none = absurd cc
not_refused false why none = refl

pub is_so : (b : Bool) → not b ≡ false → b ≡ true
is_so true is = refl
is_so false is = absurd cc

-- what is there passes a test that refuses
each_there : {X : Type 0} (P : X → Type 0) (f : X → Option ActRefusal) (found : Option X) → ((x : X) → f x ≡ None → P x) → and_then found f ≡ None → IfSome found P
each_there P f None means none = tt
each_there P f (Some x) means none = means x none

neither_there : {X : Type 0} (first other : Option X) → or_else first other ≡ None → (first ≡ None) × (other ≡ None)
neither_there None other none = (refl, none)
neither_there (Some x) other none = absurd cc

-- the segment by its number
by_number : (P : ℕ → Type 0) (found : Option Id) → IfSome found (λ (id : Id). P id.number) → IfSome (option_map number_of_id found) P
by_number P None holds = tt
by_number P (Some id) holds = holds

-- ---- an item that can be placed

pub record CanBePlaced (m : List Statement) (o : Overlay) (one : TempItem) : Type 0 where
  pub unspoken : is_subject m (item_number one) ≡ false
  pub fresh : item_of o (item_number one) ≡ None
  pub segment : IfSome (item_segment_number one) (λ (x : ℕ). is_of m is_segment x ≡ true)
  pub lies : IfSome (item_segment_number one) (λ (x : ℕ). LiesOn m x (item_length one))
  pub free : IfSome (item_segment_number one) (λ (x : ℕ). in_the_way one (marks_at m o x (item_length one)) ≡ None)
  pub marks : IfSome (item_segment_number one) (λ (x : ℕ). length (marks_on m o x) < most_marks)
  pub places : (place : Anchor) → Among (anchors one) place → is_place m o place ≡ true
  pub takes : (place : Anchor) → Among (anchors one) place → length (terms_at m o place) < most_at_place
  pub different : IsDistinct same_anchor (anchors one)
  pub phased : IfSome (item_phases one) (λ (phases : PhaseSet). has_no_phase phases ≡ false)
  pub space : length o.items < most_items

below : (n limit : ℕ) → nat_le limit n ≡ false → n < limit
below n limit is = grind (arith, nat_tests)

upto : (n limit : ℕ) → nat_lt limit n ≡ false → n ≤ limit
upto n limit is = grind (arith, nat_tests)

stated_within : (at : ℕ) (stated : Option ℕ) → option_map_or (λ (limit : ℕ). nat_lt limit at) stated false ≡ false → IfSome stated (λ (limit : ℕ). at ≤ limit)
stated_within at None is = tt
stated_within at (Some limit) is = upto at limit is

lies_on : (m : List Statement) (x at : ℕ) → is_beyond at (length_in m x) ≡ false → LiesOn m x at
lies_on m x at is =
    let both = or_parts (nat_lt most_length at) (option_map_or (λ (limit : ℕ). nat_lt limit at) (length_in m x) false) is in
    record { limit = upto at most_length both.0; stated = stated_within at (length_in m x) both.1 }

-- what the refusals say of the item that an act places
pub can_be_placed : (m : List Statement) (o : Overlay) (one : TempItem) → refused_if (is_taken m o (item_number one)) (refusal.Taken (item_id one)) ≡ None → not_segment m one ≡ None
    → and_then (item_segment one) (λ (x : Id). refused_if (is_beyond (item_length one) (length_in m x.number)) refusal.Length) ≡ None
    → and_then (item_segment one) (λ (x : Id). option_map (λ (other : Mark). refusal.SamePlace other.id) (in_the_way one (marks_at m o x.number (item_length one)))) ≡ None
    → option_map (λ (k : ℕ). refusal.NoAnchor (k + 1)) (position_from (λ (place : Anchor). not (is_place m o place)) 0 (anchors one)) ≡ None → IsDistinct same_anchor (anchors one)
    → and_then (item_phases one) (λ (phases : PhaseSet). refused_if (has_no_phase phases) refusal.Phases) ≡ None → or_else (crowded_segment m o one) (crowded_place m o one) ≡ None
    → refused_if (true && nat_le most_items (length o.items)) refusal.Full ≡ None → CanBePlaced m o one
can_be_placed m o one free fits within apart anchored different phased few space =
    let untaken = or_parts (is_subject m (item_number one)) (is_some (item_of o (item_number one))) (not_refused _ _ free) in
    let uncrowded = neither_there (crowded_segment m o one) (crowded_place m o one) few in
    record {
      unspoken = untaken.0;
      fresh = none_from_false (item_of o (item_number one)) untaken.1;
      segment = by_number (λ (x : ℕ). is_of m is_segment x ≡ true) (item_segment one)
          (each_there (λ (id : Id). is_of m is_segment id.number ≡ true) _ (item_segment one) (λ id none. is_so (is_of m is_segment id.number) (not_refused _ _ none)) fits);
      lies = by_number (λ (x : ℕ). LiesOn m x (item_length one)) (item_segment one)
          (each_there (λ (id : Id). LiesOn m id.number (item_length one)) _ (item_segment one) (λ id none. lies_on m id.number (item_length one) (not_refused _ _ none)) within);
      free = by_number (λ (x : ℕ). in_the_way one (marks_at m o x (item_length one)) ≡ None) (item_segment one)
          (each_there (λ (id : Id). in_the_way one (marks_at m o id.number (item_length one)) ≡ None) _ (item_segment one) (λ id none. map_none _ (in_the_way one (marks_at m o id.number (item_length one))) none) apart);
      marks = by_number (λ (x : ℕ). length (marks_on m o x) < most_marks) (item_segment one)
          (each_there (λ (id : Id). length (marks_on m o id.number) < most_marks) _ (item_segment one) (λ id none. below (length (marks_on m o id.number)) most_marks (not_refused _ _ none)) uncrowded.0);
      places = λ place there. is_so (is_place m o place) (position_none (λ (place : Anchor). not (is_place m o place)) 0 (anchors one) place (map_none _ _ anchored) there);
      takes = λ place there. below (length (terms_at m o place)) most_at_place (find_none (λ (place : Anchor). nat_le most_at_place (length (terms_at m o place))) (anchors one) place (map_none _ _ uncrowded.1) there);
      different = different;
      phased = each_there (λ (phases : PhaseSet). has_no_phase phases ≡ false) _ (item_phases one) (λ phases none. not_refused _ _ none) phased;
      space = below (length o.items) most_items (not_refused _ _ space);
    }
