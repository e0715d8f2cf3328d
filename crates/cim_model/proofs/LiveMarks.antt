-- The marks on the segments of a live network are marks of a line, and stand on it.
use Rattle.std.proofs.Common.{◌≡◌, ◌⊎◌, ℕ, ◌≤◌, inl, inr, List, [], ◌∷◌, ◌++◌, map, length, Bool, true, false, ◌||◌, cond, nat_eq, Option, Some, None, is_some, option_map, unwrap_or, refl, ap, sym, ◌∙◌, subst, arith, append-nil}
use Rattle.std.specs.List.{AllPairs, IsDistinct, filter, filter_map, cons_option}
use Rattle.std.proofs.lemmas.List.Kept.{AllPairs-cons}
use Rattle.std.proofs.lemmas.Option.{same_Some}
use Rattle.std.proofs.lemmas.Bool.{and_from, eqb-false, or_left}
use Rattle.plain_laws.proofs.Each.{all_from_among, each_read}
use Rattle.plain_laws.proofs.Members.{Among, among_contained, among_either, among_filter_passes, contains_among, filter_among, filter_map_among, map_among}
use Rattle.plain_laws.proofs.Options.{if_some}
use Rattle.plain_laws.proofs.Pairs.{pairs_append}
use Rattle.plain_laws.proofs.Tests.{among_any, any_among}
use Rattle.cim_words.specs.Limits.{most_length}
use Rattle.cim_words.specs.Groups.{is_equipment_class, is_passing, is_segment, is_switch, is_transformer}
use Rattle.cim_words.specs.declared.class.Class.{Class}
use Rattle.cim_words.specs.declared.class.Class.TheVariants as class
use Rattle.cim_words.specs.declared.identifier.Id.{Id}
use Rattle.cim_words.specs.declared.statement.Statement.{Statement}
use Rattle.cim_model.specs.Live.{PassesAll, PassesAlong, PassesNothing, PassesSwitched, PassesTransformed, class_conduction, conduction, is_live, item_conduction, item_segment_number, stands_on}
use Rattle.cim_model.specs.Marks.{is_item_on, is_on, item_mark, item_marks, mark, marks_of, marks_on}
use Rattle.cim_model.specs.Model.{is_of, is_subject, subjects, types}
use Rattle.cim_model.specs.Network.{is_equipment, segment_of}
use Rattle.cim_model.specs.Values.{number_of_id}
use Rattle.cim_model.proofs.MarkLists.{are_marks, some_number_is}
use Rattle.cim_model.proofs.Marks.{on_segment, segment_on_none, mark_within}
use Rattle.cim_model.proofs.OverlayItems.{IsLive, found_item_is_listed, item_found, item_stands, no_item, says_item, says_other}
use Rattle.cim_model.proofs.SaidLemmas.{of_class_is_subject}
use Rattle.cim_model.proofs.SubjectLists.{listed_subject}
use Rattle.room_words.specs.Items.{item_id, item_length, item_number}
use Rattle.room_words.specs.Overlay.{item_of}
use Rattle.room_words.specs.declared.items.TempItem.{TempItem}
use Rattle.room_words.specs.declared.items.TempItem.TheVariants as item
use Rattle.room_words.specs.declared.overlay.Overlay.{Overlay}
use Rattle.segment_cuts.specs.Sections.{AreMarks, HasMark}
use Rattle.segment_cuts.specs.declared.mark.Mark.{Mark}

-- ---- how what stands on a segment and the segment conduct

segment_conducts : (m : List Statement) (o : Overlay) (x : ℕ) → IsLive m o → is_of m is_segment x ≡ true → conduction m o x ≡ PassesAlong
segment_conducts m o x live segment =
    says_other o x item_conduction (class_conduction m x) (no_item m o x live (of_class_is_subject m is_segment x segment)) ∙ rw segment refl

stands_if : (m : List Statement) (o : Overlay) (x y : ℕ) (found : Option TempItem) → IsLive m o → item_of o y ≡ found → unwrap_or (option_map item_segment_number found) (segment_of m y) ≡ Some x
    → is_of m is_segment x ≡ true
stands_if m o x y None live is on = (on_segment m x y live.faultless on).0
stands_if m o x y (Some one) live is on =
    if_some (λ (x : ℕ). is_of m is_segment x ≡ true) (item_segment_number one) x on (item_stands m o one live (found_item_is_listed o y one is).0).segment

pub on_line : (m : List Statement) (o : Overlay) (x y : ℕ) → IsLive m o → stands_on m o y ≡ Some x → conduction m o x ≡ PassesAlong
on_line m o x y live on = segment_conducts m o x live (stands_if m o x y (item_of o y) live refl on)

no_item_along : (one : TempItem) → item_conduction one ≡ PassesAlong → ⊥
no_item_along (item.Cut id segment length is_open) is = cc
no_item_along (item.Clamp id segment length) is = cc
no_item_along (item.Jumper id first second phases is_open) is = cc
no_item_along (item.Ground id at phases) is = cc

along_segment : (s w p t : Bool) → cond s PassesAlong (cond w PassesSwitched (cond p PassesAll (cond t PassesTransformed PassesNothing))) ≡ PassesAlong → s ≡ true
along_segment true w p t is = refl
along_segment false true p t is = absurd cc
along_segment false false true t is = absurd cc
along_segment false false false true is = absurd cc
along_segment false false false false is = absurd cc

segment_equipment : (c : Class) → is_segment c ≡ true → is_equipment_class c ≡ true
segment_equipment class.ACLineSegment segment = refl
segment_equipment _ segment = absurd cc

segment_is : (m : List Statement) (x : ℕ) → is_of m is_segment x ≡ true → is_equipment m x ≡ true
segment_is m x segment =
    let c = any_among is_segment (types m x) segment in
    and_from (is_subject m x) _ (of_class_is_subject m is_segment x segment)
    (or_left (is_of m is_equipment_class x) _ (among_any is_equipment_class (types m x) c.0 c.1 (segment_equipment c.0 c.2)))

line_if : (m : List Statement) (o : Overlay) (x : ℕ) (found : Option TempItem) → IsLive m o → item_of o x ≡ found → unwrap_or (option_map item_conduction found) (class_conduction m x) ≡ PassesAlong
    → ((is_some found || is_equipment m x) ≡ true) × (unwrap_or (option_map item_segment_number found) (segment_of m x) ≡ None)
line_if m o x (Some one) live is along = absurd (no_item_along one along)
line_if m o x None live is along =
    let segment = along_segment (is_of m is_segment x) (is_of m is_switch x) (is_of m is_passing x) (is_of m is_transformer x) along in
    (segment_is m x segment, segment_on_none m x live.faultless segment)

pub line_live : (m : List Statement) (o : Overlay) (x : ℕ) → IsLive m o → conduction m o x ≡ PassesAlong → (is_live m o x ≡ true) × (stands_on m o x ≡ None)
line_live m o x live along = line_if m o x (item_of o x) live refl along

-- ---- a mark on a segment is one of the model, or that of an item

-- a subject that is a mark of a segment, and an item that is one
pub record IsModelMark (m : List Statement) (x : ℕ) (found : Mark) : Type 0 where
  pub subject : ℕ
  pub is : mark m subject ≡ found
  pub listed : is_subject m subject ≡ true
  pub on : segment_of m subject ≡ Some x

pub record IsItemMark (o : Overlay) (x : ℕ) (found : Mark) : Type 0 where
  pub one : TempItem
  pub is : item_mark one ≡ Some found
  pub listed : Among o.items one
  pub on : item_segment_number one ≡ Some x

model_mark : (m : List Statement) (x : ℕ) (found : Mark) → Among (marks_of m x) found → IsModelMark m x found
model_mark m x found there =
    let y = map_among (mark m) (filter (is_on m x) (subjects m)) found there in
    record {
      subject = y.0;
      is = y.2;
      listed = listed_subject m y.0 (contains_among (subjects m) y.0 (filter_among (is_on m x) (subjects m) y.0 y.1));
      on = some_number_is x (segment_of m y.0) (among_filter_passes (is_on m x) (subjects m) y.0 y.1);
    }

mark_of_item : (o : Overlay) (x : ℕ) (found : Mark) → Among (item_marks o x) found → IsItemMark o x found
mark_of_item o x found there =
    let one = filter_map_among item_mark (filter (is_item_on x) o.items) found there in
    record {
      one = one.0;
      is = one.2;
      listed = filter_among (is_item_on x) o.items one.0 one.1;
      on = some_number_is x (item_segment_number one.0) (among_filter_passes (is_item_on x) o.items one.0 one.1);
    }

pub mark_is : (m : List Statement) (o : Overlay) (x : ℕ) (found : Mark) → Among (marks_on m o x) found → IsModelMark m x found ⊎ IsItemMark o x found
mark_is m o x found there = elim (among_either (marks_of m x) (item_marks o x) found there) [
  | inl of_model ↦ inl (model_mark m x found of_model)
  | inr of_item ↦ inr (mark_of_item o x found of_item)
]

-- the mark of an item has its identifier
pub mark_has_item_id : (one : TempItem) (found : Mark) → item_mark one ≡ Some found → item_id one ≡ found.id
mark_has_item_id (item.Cut id segment length is_open) found is = ap (λ (m : Mark). m.id) (same_Some _ found is)
mark_has_item_id (item.Clamp id segment length) found is = ap (λ (m : Mark). m.id) (same_Some _ found is)
mark_has_item_id (item.Jumper id first second phases is_open) found is = absurd cc
mark_has_item_id (item.Ground id at phases) found is = absurd cc

marked_length : (one : TempItem) (found : Mark) → item_mark one ≡ Some found → item_length one ≡ found.length.mm
marked_length (item.Cut id segment length is_open) found is = ap (λ (m : Mark). m.length.mm) (same_Some _ found is)
marked_length (item.Clamp id segment length) found is = ap (λ (m : Mark). m.length.mm) (same_Some _ found is)
marked_length (item.Jumper id first second phases is_open) found is = absurd cc
marked_length (item.Ground id at phases) found is = absurd cc

-- ---- it stands on the segment

mark_on : (m : List Statement) (o : Overlay) (x : ℕ) (found : Mark) → IsLive m o → IsModelMark m x found ⊎ IsItemMark o x found → stands_on m o found.id.number ≡ Some x
mark_on m o x found live (inl of_model) =
    subst (λ (one : Mark). stands_on m o one.id.number ≡ Some x) of_model.is
    (says_other o of_model.subject item_segment_number (segment_of m of_model.subject) (no_item m o of_model.subject live of_model.listed) ∙ of_model.on)
mark_on m o x found live (inr of_item) =
    subst (λ (id : Id). stands_on m o id.number ≡ Some x) (mark_has_item_id of_item.one found of_item.is)
    (says_item o (item_number of_item.one) of_item.one item_segment_number (segment_of m (item_number of_item.one)) (item_found m o of_item.one live of_item.listed) ∙ of_item.on)

pub mark_stands : (m : List Statement) (o : Overlay) (x : ℕ) (id : Id) (divides : Bool) → IsLive m o → HasMark (marks_on m o x) id divides → stands_on m o id.number ≡ Some x
mark_stands m o x id divides live (found, there, is, divided) =
    subst (λ (id : Id). stands_on m o id.number ≡ Some x) is (mark_on m o x found live (mark_is m o x found (among_contained (marks_on m o x) found there)))

-- ---- they are marks of a line

lies_within : (m : List Statement) (o : Overlay) (x : ℕ) (found : Mark) → IsLive m o → IsModelMark m x found ⊎ IsItemMark o x found → found.length.mm ≤ most_length
lies_within m o x found live (inl of_model) = subst (λ (one : Mark). one.length.mm ≤ most_length) of_model.is (mark_within m of_model.subject)
lies_within m o x found live (inr of_item) =
    let lies = if_some _ (item_segment_number of_item.one) x of_item.on (item_stands m o of_item.one live of_item.listed).lies in
    subst (λ (n : ℕ). n ≤ most_length) (marked_length of_item.one found of_item.is) lies.limit

-- marks of different identifiers
abbrev OfOther : Mark → Mark → Type 0
OfOther a b = ¬ (a.id ≡ b.id)

marks_of_items : ℕ → List TempItem → List Mark
marks_of_items x items = filter_map item_mark (filter (is_item_on x) items)

head_mark : (x : ℕ) (one : TempItem) (items : List TempItem) (found : Option Mark) → item_mark one ≡ found → ((other : TempItem) → Among items other → item_number one ≡ item_number other → ⊥)
    → AllPairs OfOther (marks_of_items x items) → AllPairs OfOther (cons_option found (marks_of_items x items))
unfolding marks_of_items
head_mark x one items None is apart rest = rest
head_mark x one items (Some found) is apart rest =
    AllPairs-cons OfOther found (marks_of_items x items) (all_from_among (OfOther found) (marks_of_items x items) (λ other there same.
    let from = filter_map_among item_mark (filter (is_item_on x) items) other there in
    apart from.0 (filter_among (is_item_on x) items from.0 from.1) (ap number_of_id (mark_has_item_id one found is ∙ same ∙ sym (mark_has_item_id from.0 other from.2))))) rest

next_mark : (x : ℕ) (one : TempItem) (items : List TempItem) (b : Bool) → ((other : TempItem) → Among items other → item_number one ≡ item_number other → ⊥)
    → AllPairs OfOther (marks_of_items x items) → AllPairs OfOther (filter_map item_mark (cond b (one ∷ filter (is_item_on x) items) (filter (is_item_on x) items)))
unfolding marks_of_items
next_mark x one items true apart rest = head_mark x one items (item_mark one) refl apart rest
next_mark x one items false apart rest = rest

items_differ : (x : ℕ) (items : List TempItem) → IsDistinct nat_eq (map item_number items) → AllPairs OfOther (marks_of_items x items)
unfolding IsDistinct marks_of_items
items_differ x [] distinct = λ i j d less below. absurd (omega arith)
items_differ x (one ∷ items) distinct = next_mark x one items (is_item_on x one) (λ other there. eqb-false (item_number one) (item_number other) (each_read (λ n. nat_eq (item_number one) n ≡ false) item_number items other distinct.0 there)) (items_differ x items distinct.1)

live_apart : (m : List Statement) (o : Overlay) (x : ℕ) (a b : Mark) → IsLive m o → IsModelMark m x a → IsItemMark o x b → OfOther a b
live_apart m o x a b live of_model of_item same =
    let number : of_model.subject ≡ item_number of_item.one = ap (λ (one : Mark). one.id.number) of_model.is ∙ ap number_of_id (same ∙ sym (mark_has_item_id of_item.one b of_item.is)) in
    let fresh : is_subject m of_model.subject ≡ false = ap (is_subject m) number ∙ (item_stands m o of_item.one live of_item.listed).identifier in
    let both : true ≡ false = sym of_model.listed ∙ fresh in
    cc

-- the first item that stands on a segment, if one does
some_item : (x : ℕ) (items : List TempItem) → (filter_map item_mark (filter (is_item_on x) items) ≡ []) ⊎ ((one : TempItem) × Among items one × (item_segment_number one ≡ Some x))
some_item x items = some_of (filter (is_item_on x) items) (λ one there. (filter_among (is_item_on x) items one there, some_number_is x (item_segment_number one) (among_filter_passes (is_item_on x) items one there)))
  where
    some_of : (kept : List TempItem) → ((one : TempItem) → Among kept one → Among items one × (item_segment_number one ≡ Some x))
        → (filter_map item_mark kept ≡ []) ⊎ ((one : TempItem) × Among items one × (item_segment_number one ≡ Some x))
    some_of [] each = inl refl
    some_of (one ∷ kept) each = let here = each one (inl refl) in inr (one, here.0, here.1)

pub live_marks : (m : List Statement) (o : Overlay) (x : ℕ) → IsLive m o → AreMarks (marks_on m o x)
unfolding marks_of_items
live_marks m o x live = elim (some_item x o.items) [
  | inl none ↦ subst AreMarks (sym (ap (λ (marks : List Mark). marks_of m x ++ marks) none ∙ append-nil (marks_of m x))) (are_marks m x live.faultless)
  | inr some ↦ (let stands = item_stands m o some.0 live some.1 in record {
    few = if_some _ (item_segment_number some.0) x some.2 stands.few;
    within = all_from_among (λ (one : Mark). one.length.mm ≤ most_length) (marks_on m o x) (λ found there. lies_within m o x found live (mark_is m o x found there));
    different = pairs_append OfOther (marks_of m x) (item_marks o x) (are_marks m x live.faultless).different (items_differ x o.items live.stands.identifiers)
        (λ a b here there. live_apart m o x a b live (model_mark m x a here) (mark_of_item o x b there));
    apart = if_some _ (item_segment_number some.0) x some.2 stands.apart;
  })
]
