-- The places of cuts and clamps along their segments, and the steps of the rule on them.
use Rattle.std.specs.Prelude.{ℕ, ◌≡◌, List, Bool, not, ◌&&◌, ◌||◌, ◌==◌, nat_lt, nat_eq}
use Rattle.std.specs.List.{list_any}
use Rattle.std.specs.Ordering.{nat_cmp, on, then_cmp}
use Rattle.std.specs.declared.cmp.Ordering.{Ordering}
use Rattle.cim_words.specs.declared.identifier.Id.{Id}
use Rattle.cim_words.specs.declared.length.Length.{Length}
use Rattle.cim_words.specs.declared.statement.Statement.{Statement}
use Rattle.cim_model.specs.Stated.{ids_said, stated_lengths}
use Rattle.cim_model.specs.Profile.{is_beyond, shares_place}
use Rattle.cim_profile.specs.MarkKind.{is_mark, mark_lengths, marks_of, segment_of}
use Rattle.cim_profile.specs.declared.mark_kind.MarkKind.{MarkKind}
use Rattle.cim_profile.specs.declared.mark_kind.MarkKind.TheVariants.{Cut, Clamp}
use Rattle.cim_profile.specs.declared.marks.Place.{Place}

-- a mark of a kind, with these lengths, lies beyond a segment, or shares a place there if it is a cut
abbrev pub lies_wrongly : List Statement → MarkKind → ℕ → List ℕ → ℕ → Bool
lies_wrongly m Cut x lengths s = is_beyond lengths (stated_lengths m s) || shares_place m x lengths s
lies_wrongly m Clamp x lengths s = is_beyond lengths (stated_lengths m s)

-- whether a subject is a mark of a kind and lies wrongly along a segment that it names
abbrev pub is_misplaced : List Statement → MarkKind → ℕ → Bool
is_misplaced m k x = is_mark m k x && list_any (lies_wrongly m k x (mark_lengths m k x)) (ids_said m x (segment_of k))

-- a mark of a segment at one of its lengths
abbrev pub place_at : Id → Id → Length → Place
place_at segment mark length = record { segment = segment; length = length; mark = mark }

-- places stand in order by segment, then by length, then by mark
abbrev pub place_order : Place → Place → Ordering
place_order = then_cmp (on (λ (p : Place). p.segment.number) nat_cmp) (then_cmp (on (λ (p : Place). p.length.mm) nat_cmp) (on (λ (p : Place). p.mark.number) nat_cmp))

-- whether a place stands before a length along a segment
abbrev pub is_before : ℕ → ℕ → Place → Bool
is_before s n p = nat_lt p.segment.number s || p.segment.number == s && nat_lt p.length.mm n

-- whether a place is along a segment, and its length and mark pass a test
abbrev pub is_at : ℕ → (ℕ → ℕ → Bool) → Place → Bool
is_at s test p = p.segment.number == s && test p.length.mm p.mark.number

-- the test of another mark at the same length
abbrev pub is_other : ℕ → ℕ → ℕ → ℕ → Bool
is_other n x other y = not (y == x) && nat_eq n other

-- whether some mark of a kind of a segment passes a test at one of its lengths
abbrev pub any_mark : List Statement → MarkKind → ℕ → (ℕ → ℕ → Bool) → Bool
any_mark m k s test = list_any (λ y. list_any (λ n. test n y) (mark_lengths m k y)) (marks_of m k s)

-- places hold all marks of a kind, or all marks, at all their lengths and nothing else: whatever test of lengths and marks
-- is taken, a place along a segment passes it exactly where such a mark of the segment does
abbrev pub HoldsMarks : List Statement → MarkKind → List Place → Type 0
HoldsMarks m k places = (s : ℕ) (test : ℕ → ℕ → Bool) → list_any (is_at s test) places ≡ any_mark m k s test

abbrev pub HoldsPlaces : List Statement → List Place → Type 0
HoldsPlaces m places = (s : ℕ) (test : ℕ → ℕ → Bool) → list_any (is_at s test) places ≡ (any_mark m Cut s test || any_mark m Clamp s test)
