-- What an item needs on a model, test by test, as the code makes them.
use Rattle.std.specs.Prelude.{ℕ, ◌≤◌, List, length, map, IsTrue, Bool, true, not, ◌&&◌, ◌||◌, ◌==◌, nat_le, if◌then◌else◌, Option, Some, None}
use Rattle.std.specs.List.{filter, list_all, list_any}
use Rattle.std.specs.List.Sorted.{IsStrictlyIncreasing}
use Rattle.cim_words.specs.Groups.{is_segment, is_switch}
use Rattle.cim_words.specs.Phases.{has_no_phase}
use Rattle.cim_words.specs.declared.statement.Statement.{Statement}
use Rattle.cim_words.specs.Limits.{most_at_place, most_items, most_length, most_marks}
use Rattle.cim_model.specs.Live.{is_place, item_segment_number, terms_at}
use Rattle.cim_model.specs.Marks.{is_item_on, item_mark, marks_of, marks_on}
use Rattle.cim_model.specs.Model.{is_of, is_subject}
use Rattle.cim_model.specs.Network.{length_in}
use Rattle.room_words.specs.Items.{as_list, item_number, side_one, side_two}
use Rattle.room_words.specs.Overlay.{position_number}
use Rattle.room_words.specs.Terms.{same_anchor}
use Rattle.room_words.specs.declared.anchor.Anchor.{Anchor}
use Rattle.room_words.specs.declared.items.TempItem.{TempItem}
use Rattle.room_words.specs.declared.items.TempItem.TheVariants as item
use Rattle.room_words.specs.declared.overlay.Overlay.{Overlay}
use Rattle.room_words.specs.declared.overlay.Position.{Position}
use Rattle.room_words.specs.declared.term.Term.{Term}
use Rattle.segment_cuts.specs.declared.mark.Mark.{Mark}

-- a test of what there may be
abbrev pub if_there : {X : Type 0} → Option X → (X → Bool) → Bool
if_there None test = true
if_there (Some x) test = test x

-- an item as a mark of a segment, where it stands on it
abbrev pub mark_on : ℕ → TempItem → Option Mark
mark_on x one = if is_item_on x one then item_mark one else None

-- whether two marks may stand on one segment: at different lengths, or neither is a cut
abbrev pub may_share : Mark → Mark → Bool
may_share a b = not (a.length.mm == b.length.mm) || not a.divides && not b.divides

-- whether a mark may stand beside an item: it is this item, or they may share the segment
abbrev pub is_beside : ℕ → Mark → TempItem → Bool
is_beside x mark one = if_there (mark_on x one) (λ (other : Mark). other.id.number == mark.id.number || may_share mark other)

-- whether an item may stand beside the other marks of a segment
abbrev pub is_apart : List Statement → Overlay → ℕ → TempItem → Bool
is_apart m o x one = if_there (mark_on x one) (λ (mark : Mark). list_all (may_share mark) (marks_of m x) && list_all (is_beside x mark) o.items)

-- whether a length lies on a segment
abbrev pub lies_on : List Statement → ℕ → ℕ → Bool
lies_on m x length = nat_le length most_length && if_there (length_in m x) (λ (limit : ℕ). nat_le length limit)

-- whether a segment can have a mark at a length, and whether a place can have a terminal
abbrev pub bears : List Statement → Overlay → ℕ → ℕ → Bool
bears m o x at = is_of m is_segment x && lies_on m x at && nat_le (length (marks_on m o x)) most_marks

abbrev pub takes : List Statement → Overlay → Anchor → Bool
takes m o place = is_place m o place && nat_le (length (terms_at m o place)) most_at_place

-- whether a side of an item stands at a place
abbrev pub is_at : Anchor → Anchor × Term → Bool
is_at place standing = same_anchor standing.0 place

abbrev pub is_first_at : Anchor → TempItem → Bool
is_first_at place one = is_at place (side_one one)

abbrev pub is_second_at : Anchor → TempItem → Bool
is_second_at place one = list_any (is_at place) (as_list (side_two one))

-- whether an item finds what it needs, and whether it stands but for the marks that are too near
abbrev pub finds : List Statement → Overlay → TempItem → Bool
finds m o (item.Cut id segment at is_open) = bears m o segment.number at.mm
finds m o (item.Clamp id segment at) = bears m o segment.number at.mm
finds m o (item.Jumper id first second phases is_open) = takes m o first && takes m o second
finds m o (item.Ground id at phases) = takes m o at

abbrev pub is_borne : List Statement → Overlay → TempItem → Bool
is_borne m o one = not (is_subject m (item_number one)) && finds m o one

-- whether a jumper has different anchors, and a jumper or a ground some phase
abbrev pub is_sound : TempItem → Bool
is_sound (item.Cut id segment at is_open) = true
is_sound (item.Clamp id segment at) = true
is_sound (item.Jumper id first second phases is_open) = not (same_anchor first second) && not (has_no_phase phases)
is_sound (item.Ground id at phases) = not (has_no_phase phases)

-- whether an item is sound, borne, and apart from the other marks of its segment
abbrev pub is_apart_at_home : List Statement → Overlay → TempItem → Bool
is_apart_at_home m o one = if_there (item_segment_number one) (λ (x : ℕ). is_apart m o x one)

-- whether the marks of the segment of an item are apart, and whether the item stands
abbrev pub has_apart : List Statement → Overlay → TempItem → Bool
has_apart m o one = if_there (item_segment_number one) (λ (x : ℕ). list_all (is_apart m o x) o.items)

abbrev pub does_stand : List Statement → Overlay → TempItem → Bool
does_stand m o one = is_borne m o one && has_apart m o one

abbrev pub is_good : List Statement → Overlay → TempItem → Bool
is_good m o one = is_sound one && is_borne m o one && is_apart_at_home m o one

-- how many items of a list have an identifier, and whether each has one of its own
abbrev pub has_number : ℕ → TempItem → Bool
has_number n one = item_number one == n

abbrev pub is_alone : List TempItem → TempItem → Bool
is_alone items one = length (filter (has_number (item_number one)) items) == 1

-- whether a position is that of a switch, and what an overlay passes as a whole
abbrev pub is_of_switch : List Statement → Position → Bool
is_of_switch m position = is_of m is_switch (position_number position)

pub record Passes (m : List Statement) (o : Overlay) : Type 0 where
  pub few : length o.items ≤ most_items
  pub alone : IsTrue (list_all (is_alone o.items) o.items)
  pub switches : IsTrue (list_all (is_of_switch m) o.positions)
  pub ascend : IsStrictlyIncreasing (map position_number o.positions)
  pub good : IsTrue (list_all (is_good m o) o.items)
