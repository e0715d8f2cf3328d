-- An item is turned: all others are the same, and it keeps all but its position.
use Rattle.std.proofs.Common.{◌≡◌, ℕ, List, map, Bool, true, false, ◌==◌, cond, Option, Some, None, option_map, unwrap_or, refl, ap, sym, ◌∙◌}
use Rattle.std.specs.List.{filter, list_any}
use Rattle.std.proofs.lemmas.Bool.{eqb-true}
use Rattle.cim_words.specs.declared.statement.Statement.{Statement}
use Rattle.cim_model.specs.Effects.{turned, with_turned}
use Rattle.cim_model.specs.Live.{item_segment_number, real, terms_of}
use Rattle.cim_model.specs.Marks.{is_item_on, item_mark, item_marks}
use Rattle.cim_model.specs.Network.{is_some_number, terminals_by_side}
use Rattle.plain_laws.proofs.Options.{find_among}
use Rattle.room_words.specs.Items.{item_number, item_terms, item_terms_at, makes, own_places, standing, term_in}
use Rattle.room_words.specs.Overlay.{item_of}
use Rattle.room_words.specs.Terms.{same_anchor}
use Rattle.room_words.specs.declared.anchor.Anchor.{Anchor}
use Rattle.room_words.specs.declared.items.TempItem.{TempItem}
use Rattle.room_words.specs.declared.items.TempItem.TheVariants as item
use Rattle.room_words.specs.declared.overlay.Overlay.{Overlay}
use Rattle.room_words.specs.declared.term.Term.{Term}
use Rattle.increment.proofs.Changed.{any_changed, filter_map_changed, find_changed, flat_map_changed}
use Rattle.increment.proofs.Places.{AgreeAt}
use Rattle.increment.proofs.Stars.{AgreeOn}

abbrev pub with_turn : Overlay → ℕ → Bool → Overlay
with_turn o n is_open = record { items = with_turned n is_open o.items; positions = o.positions }

abbrev turn : ℕ → Bool → TempItem → TempItem
turn n is_open one = cond (item_number one == n) (turned is_open one) one

-- ---- what an item keeps

record Keeps (one two : TempItem) : Type 0 where
  pub number : item_number two ≡ item_number one
  pub segment : item_segment_number two ≡ item_segment_number one
  pub mark : item_mark two ≡ item_mark one
  pub sides : standing two ≡ standing one
  pub places : own_places two ≡ own_places one

keeps_all : (one : TempItem) → Keeps one one
keeps_all one = record { number = refl; segment = refl; mark = refl; sides = refl; places = refl }

turned_keeps : (is_open : Bool) (one : TempItem) → Keeps one (turned is_open one)
turned_keeps is_open (item.Cut id segment at was) = record { number = refl; segment = refl; mark = refl; sides = refl; places = refl }
turned_keeps is_open (item.Clamp id segment at) = keeps_all (item.Clamp id segment at)
turned_keeps is_open (item.Jumper id first second phases was) = record { number = refl; segment = refl; mark = refl; sides = refl; places = refl }
turned_keeps is_open (item.Ground id at phases) = keeps_all (item.Ground id at phases)

keeps_if : (b is_open : Bool) (one : TempItem) → Keeps one (cond b (turned is_open one) one)
keeps_if true is_open one = turned_keeps is_open one
keeps_if false is_open one = keeps_all one

keeps : (n : ℕ) (is_open : Bool) (one : TempItem) → Keeps one (turn n is_open one)
keeps n is_open one = keeps_if (item_number one == n) is_open one

-- ---- the items by their identifiers

turned_found : (o : Overlay) (n : ℕ) (is_open : Bool) (x : ℕ) → item_of (with_turn o n is_open) x ≡ option_map (turn n is_open) (item_of o x)
turned_found o n is_open x = find_changed (λ (one : TempItem). item_number one == x) (turn n is_open) (λ one. ap (λ (k : ℕ). k == x) (keeps n is_open one).number) o.items

-- another item is not turned
left_if : (is_open : Bool) (one : TempItem) (b : Bool) → (b ≡ true → ⊥) → cond b (turned is_open one) one ≡ one
left_if is_open one true other = absurd (other refl)
left_if is_open one false other = refl

left : (n x : ℕ) (is_open : Bool) (found : Option TempItem) → ¬ (x ≡ n) → ((one : TempItem) → found ≡ Some one → item_number one ≡ x) → option_map (turn n is_open) found ≡ found
left n x is_open None other named = refl
left n x is_open (Some one) other named =
    ap (λ (two : TempItem). Some two) (left_if is_open one (item_number one == n) (λ same. other (sym (named one refl) ∙ eqb-true (item_number one) n same)))

named : (o : Overlay) (x : ℕ) (one : TempItem) → item_of o x ≡ Some one → item_number one ≡ x
named o x one found = eqb-true (item_number one) x (find_among (λ (other : TempItem). item_number other == x) o.items one found).1

same_item : (o : Overlay) (n : ℕ) (is_open : Bool) (x : ℕ) → ¬ (x ≡ n) → item_of (with_turn o n is_open) x ≡ item_of o x
same_item o n is_open x other = turned_found o n is_open x ∙ left n x is_open (item_of o x) other (named o x)

-- ---- their marks and their terminals

same_marks : (o : Overlay) (n : ℕ) (is_open : Bool) (x : ℕ) → item_marks (with_turn o n is_open) x ≡ item_marks o x
same_marks o n is_open x = filter_map_changed item_mark (is_item_on x) (turn n is_open) (λ one. ap (is_some_number x) (keeps n is_open one).segment) (λ one. (keeps n is_open one).mark) o.items

terms_if : (n : ℕ) (is_open : Bool) (found : Option TempItem) (other : List Term) → unwrap_or (option_map item_terms (option_map (turn n is_open) found)) other ≡ unwrap_or (option_map item_terms found) other
terms_if n is_open None other = refl
terms_if n is_open (Some one) other = ap (map term_in) (keeps n is_open one).sides

same_terms : (m : List Statement) (o : Overlay) (n : ℕ) (is_open : Bool) (x : ℕ) → terms_of m (with_turn o n is_open) x ≡ terms_of m o x
same_terms m o n is_open x =
    ap (λ (found : Option TempItem). unwrap_or (option_map item_terms found) (map (real x) (terminals_by_side m x))) (turned_found o n is_open x)
    ∙ terms_if n is_open (item_of o x) (map (real x) (terminals_by_side m x))

-- ---- so nothing changes but for the item

pub turned_agrees : (m : List Statement) (o : Overlay) (n : ℕ) (is_open : Bool) (x : ℕ) → ¬ (x ≡ n) → AgreeOn m o (with_turn o n is_open) x
turned_agrees m o n is_open x other = record {
  item = same_item o n is_open x other;
  position = refl;
  marks = same_marks o n is_open x;
  terms = λ mark there. same_terms m o n is_open mark.id.number;
}

pub turned_agrees_at : (o : Overlay) (n : ℕ) (is_open : Bool) (place : Anchor) → AgreeAt o (with_turn o n is_open) place
turned_agrees_at o n is_open place = record {
  made = any_changed (makes place) (turn n is_open) (λ one. ap (list_any (same_anchor place)) (keeps n is_open one).places) o.items;
  terms = flat_map_changed (item_terms_at place) (turn n is_open) (λ one. ap (λ (sides : List (Anchor × Term)). map term_in (filter (λ (s : Anchor × Term). same_anchor s.0 place) sides)) (keeps n is_open one).sides) o.items;
}
