-- An overlay has one item more than another: whatever the item has no part in is the same under both.
use Rattle.std.proofs.Common.{◌≡◌, ℕ, inl, inr, List, Bool, true, false, not, ◌==◌, option_map, find, refl, ap, sym, ◌∙◌}
use Rattle.std.specs.List.{filter, filter_map, flat_map, list_any}
use Rattle.std.proofs.lemmas.Bool.{eqb-true, false_from_ne_true}
use Rattle.cim_words.specs.declared.statement.Statement.{Statement}
use Rattle.cim_model.specs.Effects.{without_item}
use Rattle.cim_model.specs.Marks.{is_item_on, is_on, item_mark, item_marks, mark, marks_of, marks_on}
use Rattle.cim_model.specs.Model.{is_subject, subjects}
use Rattle.plain_laws.proofs.Members.{Among, among_either, among_filter_passes, filter_among, filter_map_among, map_among}
use Rattle.plain_laws.proofs.Truth.{never_both}
use Rattle.room_words.specs.Items.{item_number, item_terms_at, makes}
use Rattle.room_words.specs.Overlay.{item_of, position_number}
use Rattle.room_words.specs.declared.anchor.Anchor.{Anchor}
use Rattle.room_words.specs.declared.items.TempItem.{TempItem}
use Rattle.room_words.specs.declared.overlay.Overlay.{Overlay}
use Rattle.room_words.specs.declared.overlay.Position.{Position}
use Rattle.segment_cuts.specs.declared.mark.Mark.{Mark}
use Rattle.increment.proofs.ItemParts.{HasNoPartAt, HasNoPartIn, mark_number}
use Rattle.increment.proofs.Kept.{any_kept, filter_map_kept, find_kept, flat_map_kept}
use Rattle.increment.proofs.Places.{AgreeAt}
use Rattle.increment.proofs.Stars.{AgreeOn, same_terms}

-- Without the item the second overlay is the first one. The item alone has its identifier there, and the model does not speak of it.
pub record HasOneMore (m : List Statement) (o p : Overlay) (one : TempItem) : Type 0 where
  pub items : o.items ≡ without_item (item_number one) p.items
  pub positions : o.positions ≡ p.positions
  pub alone : (other : TempItem) → Among p.items other → item_number other ≡ item_number one → other ≡ one
  pub unspoken : is_subject m (item_number one) ≡ false

-- just the subjects of a model are listed
abbrev pub AreSubjects : List Statement → Type 0
AreSubjects m = (x : ℕ) → Among (subjects m) x → is_subject m x ≡ true

-- ---- where the item fails a test, all that pass it are in both overlays

abbrev others : TempItem → TempItem → Bool
others one other = not (item_number other == item_number one)

other_if : (b : Bool) → (b ≡ true → ⊥) → not b ≡ true
other_if true other = absurd (other refl)
other_if false other = refl

others_pass : (m : List Statement) (o p : Overlay) (one : TempItem) (q : TempItem → Bool) → HasOneMore m o p one → q one ≡ false → (other : TempItem) → Among p.items other → q other ≡ true → others one other ≡ true
others_pass m o p one q more fails other there passes =
    other_if (item_number other == item_number one) (λ same.
    let is : other ≡ one = more.alone other there (eqb-true (item_number other) (item_number one) same) in
    never_both (q one) (ap q (sym is) ∙ passes) fails)

-- what is in the second overlay alone is the item
left_out : (b : Bool) → not b ≡ false → b ≡ true
left_out true is = refl
left_out false is = absurd cc

is_it : (m : List Statement) (o p : Overlay) (one : TempItem) → HasOneMore m o p one → (other : TempItem) → Among p.items other → others one other ≡ false → other ≡ one
is_it m o p one more other there out = more.alone other there (eqb-true (item_number other) (item_number one) (left_out (item_number other == item_number one) out))

-- ---- other items, and their marks

same_item : (m : List Statement) (o p : Overlay) (one : TempItem) (x : ℕ) → HasOneMore m o p one → (item_number one == x) ≡ false → item_of o x ≡ item_of p x
same_item m o p one x more other =
    let named : TempItem → Bool = λ (two : TempItem). item_number two == x in
    ap (find named) more.items ∙ find_kept named (others one) p.items (others_pass m o p one named more other)

same_marks : (m : List Statement) (o p : Overlay) (one : TempItem) (x : ℕ) → HasOneMore m o p one → is_item_on x one ≡ false → item_marks o x ≡ item_marks p x
same_marks m o p one x more off =
    ap (λ (items : List TempItem). filter_map item_mark (filter (is_item_on x) items)) more.items
    ∙ filter_map_kept item_mark (is_item_on x) (others one) p.items (others_pass m o p one (is_item_on x) more off)

-- ---- the marks on a segment where it does not stand are others

not_stated : (m : List Statement) (one : TempItem) (x : ℕ) (found : Mark) → AreSubjects m → is_subject m (item_number one) ≡ false → Among (marks_of m x) found → found.id.number ≡ item_number one → ⊥
not_stated m one x found subjects_are unspoken there same =
    let y = map_among (mark m) (filter (is_on m x) (subjects m)) found there in
    let is : y.0 ≡ item_number one = ap (λ (found : Mark). found.id.number) y.2 ∙ same in
    never_both (is_subject m (item_number one)) (ap (is_subject m) (sym is) ∙ subjects_are y.0 (filter_among (is_on m x) (subjects m) y.0 y.1)) unspoken

not_placed : (m : List Statement) (o p : Overlay) (one : TempItem) (x : ℕ) (found : Mark) → HasOneMore m o p one → is_item_on x one ≡ false → Among (item_marks p x) found → found.id.number ≡ item_number one → ⊥
not_placed m o p one x found more off there same =
    let other = filter_map_among item_mark (filter (is_item_on x) p.items) found there in
    let is : other.0 ≡ one = more.alone other.0 (filter_among (is_item_on x) p.items other.0 other.1) (sym (mark_number other.0 found other.2) ∙ same) in
    never_both (is_item_on x one) (ap (is_item_on x) (sym is) ∙ among_filter_passes (is_item_on x) p.items other.0 other.1) off

another : (m : List Statement) (o p : Overlay) (one : TempItem) (x : ℕ) (found : Mark) → AreSubjects m → HasOneMore m o p one → is_item_on x one ≡ false → Among (marks_on m p x) found
    → (item_number one == found.id.number) ≡ false
another m o p one x found subjects_are more off there =
    false_from_ne_true (item_number one == found.id.number) (λ equal.
    let same : found.id.number ≡ item_number one = sym (eqb-true (item_number one) found.id.number equal) in
    elim (among_either (marks_of m x) (item_marks p x) found there) [
      | inl stated ↦ not_stated m one x found subjects_are more.unspoken stated same
      | inr placed ↦ not_placed m o p one x found more off placed same
    ])

-- ---- so what the item has no part in is the same

pub agrees_but_for_item : (m : List Statement) (o p : Overlay) (one : TempItem) (x : ℕ) → AreSubjects m → HasOneMore m o p one → HasNoPartIn one x → AgreeOn m p o x
agrees_but_for_item m o p one x subjects_are more none = record {
  item = same_item m o p one x more none.other;
  position = ap (λ (positions : List Position). option_map (λ (position : Position). position.is_open) (find (λ (position : Position). position_number position == x) positions)) more.positions;
  marks = same_marks m o p one x more none.off;
  terms = λ found there. same_terms m p o found.id.number (same_item m o p one found.id.number more (another m o p one x found subjects_are more none.off there));
}

pub agrees_at_other_places : (m : List Statement) (o p : Overlay) (one : TempItem) (place : Anchor) → HasOneMore m o p one → HasNoPartAt one place → AgreeAt p o place
agrees_at_other_places m o p one place more none = record {
  made = ap (list_any (makes place)) more.items ∙ any_kept (makes place) (others one) p.items (others_pass m o p one (makes place) more none.made);
  terms =
      ap (flat_map (item_terms_at place)) more.items
      ∙ flat_map_kept (item_terms_at place) (others one) p.items (λ other there out. ap (item_terms_at place) (is_it m o p one more other there out) ∙ none.terms);
}
