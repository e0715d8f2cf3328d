-- When an item that stood in an overlay stands in another one.
use Rattle.std.proofs.Common.{◌≡◌, ℕ, ◌≤◌, List, length, true, Contains}
use Rattle.cim_words.specs.Limits.{most_at_place, most_marks}
use Rattle.cim_words.specs.declared.statement.Statement.{Statement}
use Rattle.cim_model.specs.Live.{is_place, item_segment_number, terms_at}
use Rattle.cim_model.specs.Marks.{marks_on}
use Rattle.cim_model.specs.Stands.{AreApart, ItemStands}
use Rattle.room_words.specs.Items.{anchors}
use Rattle.room_words.specs.declared.anchor.Anchor.{Anchor}
use Rattle.room_words.specs.declared.items.TempItem.{TempItem}
use Rattle.room_words.specs.declared.overlay.Overlay.{Overlay}
use Rattle.plain_laws.proofs.Options.{if_some_follows}

-- each segment that bore its marks bears those of another overlay
pub record Bears (m : List Statement) (o p : Overlay) : Type 0 where
  pub few : (x : ℕ) → length (marks_on m o x) ≤ most_marks → length (marks_on m p x) ≤ most_marks
  pub apart : (x : ℕ) → AreApart (marks_on m o x) → AreApart (marks_on m p x)

-- what is a place and not crowded
pub record Takes (m : List Statement) (o : Overlay) (place : Anchor) : Type 0 where
  pub is : is_place m o place ≡ true
  pub few : length (terms_at m o place) ≤ most_at_place

pub still : (m : List Statement) (o p : Overlay) (one : TempItem) → Bears m o p → ((place : Anchor) → Contains (anchors one) place → Takes m o place → Takes m p place) → ItemStands m o one → ItemStands m p one
still m o p one bears takes stands =
    let each = λ (place : Anchor) (there : Contains (anchors one) place). takes place there (record { is = stands.places place there; few = stands.crowds place there }) in
    record {
      identifier = stands.identifier;
      segment = stands.segment;
      lies = stands.lies;
      few = if_some_follows (λ (x : ℕ). length (marks_on m o x) ≤ most_marks) (λ (x : ℕ). length (marks_on m p x) ≤ most_marks) (item_segment_number one) bears.few stands.few;
      apart = if_some_follows (λ (x : ℕ). AreApart (marks_on m o x)) (λ (x : ℕ). AreApart (marks_on m p x)) (item_segment_number one) bears.apart stands.apart;
      places = λ place there. (each place there).is;
      crowds = λ place there. (each place there).few;
    }
