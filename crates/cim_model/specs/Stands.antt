-- When an overlay stands on a model, of this project: each item and each position finds what it needs, and no limit is passed.
use Rattle.std.specs.Prelude.{ℕ, ◌≡◌, ◌≤◌, List, length, map, false, IsTrue, IfSome, Contains, nat_eq}
use Rattle.std.specs.List.{AllPairs, IsDistinct}
use Rattle.std.specs.List.Sorted.{IsStrictlyIncreasing}
use Rattle.cim_words.specs.Groups.{is_segment, is_switch}
use Rattle.cim_words.specs.Phases.{has_no_phase}
use Rattle.cim_words.specs.declared.phases.PhaseSet.{PhaseSet}
use Rattle.cim_words.specs.declared.statement.Statement.{Statement}
use Rattle.cim_words.specs.Limits.{most_at_place, most_items, most_length, most_marks}
use Rattle.cim_model.specs.Live.{is_place, item_segment_number, terms_at}
use Rattle.cim_model.specs.Marks.{marks_on}
use Rattle.cim_model.specs.Model.{is_of, is_subject}
use Rattle.cim_model.specs.Network.{length_in}
use Rattle.room_words.specs.Items.{anchors, item_length, item_number, item_phases}
use Rattle.room_words.specs.Overlay.{position_number}
use Rattle.room_words.specs.Terms.{same_anchor}
use Rattle.room_words.specs.declared.anchor.Anchor.{Anchor}
use Rattle.room_words.specs.declared.items.TempItem.{TempItem}
use Rattle.room_words.specs.declared.overlay.Overlay.{Overlay}
use Rattle.room_words.specs.declared.overlay.Position.{Position}
use Rattle.segment_cuts.specs.declared.mark.Mark.{Mark}

-- a length lies on a segment: within the limit, and within the segment's length where one is stated
pub record LiesOn (m : List Statement) (segment length : ℕ) : Type 0 where
  pub limit : length ≤ most_length
  pub stated : IfSome (length_in m segment) (λ (limit : ℕ). length ≤ limit)

-- no cut shares its length with another mark
abbrev pub AreApart : List Mark → Type 0
AreApart marks = AllPairs (λ (a b : Mark). a.length ≡ b.length → (a.divides ≡ false) × (b.divides ≡ false)) marks

-- An item stands: its identifier is no subject of the model; a cut or a clamp names a line segment, lies on it, and the segment has not
-- too many marks and none at the length of a cut; each anchor of a jumper or a ground is a place, and none is crowded.
pub record ItemStands (m : List Statement) (o : Overlay) (one : TempItem) : Type 0 where
  pub identifier : is_subject m (item_number one) ≡ false
  pub segment : IfSome (item_segment_number one) (λ (x : ℕ). IsTrue (is_of m is_segment x))
  pub lies : IfSome (item_segment_number one) (λ (x : ℕ). LiesOn m x (item_length one))
  pub few : IfSome (item_segment_number one) (λ (x : ℕ). length (marks_on m o x) ≤ most_marks)
  pub apart : IfSome (item_segment_number one) (λ (x : ℕ). AreApart (marks_on m o x))
  pub places : (place : Anchor) → Contains (anchors one) place → IsTrue (is_place m o place)
  pub crowds : (place : Anchor) → Contains (anchors one) place → length (terms_at m o place) ≤ most_at_place

-- a position stands: its switch is one of the model
abbrev pub PositionStands : List Statement → Position → Type 0
PositionStands m position = IsTrue (is_of m is_switch (position_number position))

-- An overlay stands where each item and each position does, no two items have one identifier, the positions ascend by switch, so that
-- each switch has one, a jumper has different anchors, a jumper or a ground has some phase, and there are not too many items.
pub record Stands (m : List Statement) (o : Overlay) : Type 0 where
  pub items : (one : TempItem) → Contains o.items one → ItemStands m o one
  pub positions : (position : Position) → Contains o.positions position → PositionStands m position
  pub identifiers : IsDistinct nat_eq (map item_number o.items)
  pub switches : IsStrictlyIncreasing (map position_number o.positions)
  pub jumpers : (one : TempItem) → Contains o.items one → IsDistinct same_anchor (anchors one)
  pub phased : (one : TempItem) → Contains o.items one → IfSome (item_phases one) (λ (phases : PhaseSet). has_no_phase phases ≡ false)
  pub few : length o.items ≤ most_items
