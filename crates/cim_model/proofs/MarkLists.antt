-- The cuts and clamps of a segment in a model without fault, as marks of a line.
use Rattle.std.proofs.Common.{◌≡◌, ◌≢◌, ℕ, ◌+◌, ◌≤◌, inl, inr, List, [], ◌∷◌, ◌++◌, length, Bool, true, false, ◌&&◌, nat_lt, Option, Some, None, refl, sym, ap, arith, length-append}
use Rattle.std.specs.List.{AllPairs, filter}
use Rattle.std.proofs.lemmas.Bool.Decides.{nat_tests}
use Rattle.std.proofs.lemmas.List.{length-map}
use Rattle.std.proofs.lemmas.List.Elements.{All-map}
use Rattle.std.proofs.lemmas.Bool.{eqb-true, false_from_ne_true, or_parts}
use Rattle.plain_laws.proofs.Members.{Among, among_filter_passes, among_left, among_right}
use Rattle.plain_laws.proofs.Pairs.{different_filter, different_no_more, pairs_follow, pairs_map}
use Rattle.cim_words.specs.Limits.{most_length, most_marks}
use Rattle.cim_words.specs.Groups.{is_cut, is_segment}
use Rattle.cim_words.specs.declared.statement.Statement.{Statement}
use Rattle.segment_cuts.specs.Sections.{AreMarks}
use Rattle.segment_cuts.specs.declared.mark.Mark.{Mark}
use Rattle.cim_model.specs.Marks.{is_on, mark, marks_of}
use Rattle.cim_model.specs.Model.{is_of, subjects}
use Rattle.cim_model.specs.Network.{is_some_number, mark_length, segment_of}
use Rattle.cim_model.specs.Profile.{IsFaultless, breaks_crowd, has_many_marks, has_many_terminals}
use Rattle.cim_model.specs.Stated.{clamps_of, cuts_of}
use Rattle.cim_model.specs.Values.{as_id, mm_of, number_of_id}
use Rattle.cim_model.proofs.FaultlessSubjects.{breaks_no_rule}
use Rattle.cim_model.proofs.Marks.{on_segment, cut_apart, mark_listed, mark_within}
use Rattle.cim_model.proofs.SaidLemmas.{of_class_is_subject}
use Rattle.cim_model.proofs.SubjectLists.{distinct_subjects}

-- the subjects that stand on a segment, which differ
standing : List Statement → ℕ → List ℕ
standing m x = filter (is_on m x) (subjects m)

differ : (m : List Statement) (x : ℕ) → AllPairs (λ y z. y ≢ z) (standing m x)
unfolding standing
differ m x = different_filter (is_on m x) (subjects m) (distinct_subjects m)

pub some_number_is : (x : ℕ) (o : Option ℕ) → is_some_number x o ≡ true → o ≡ Some x
some_number_is x None is = absurd cc
some_number_is x (Some y) is = ap (λ (n : ℕ). Some n) (eqb-true y x is)

stands : (m : List Statement) (x y : ℕ) → Among (standing m x) y → segment_of m y ≡ Some x
unfolding standing
stands m x y there = some_number_is x (segment_of m y) (among_filter_passes (is_on m x) (subjects m) y there)

-- ---- they are few

few_listed : (m : List Statement) (x : ℕ) → IsFaultless m → is_of m is_segment x ≡ true → length (cuts_of m x ++ clamps_of m x) ≤ most_marks
few_listed m x faultless segment =
    let kept : breaks_crowd m x ≡ false = breaks_no_rule m 9 x faultless (of_class_is_subject m is_segment x segment) in
    let many : has_many_marks m x ≡ false = (or_parts (has_many_marks m x) (has_many_terminals m x) kept).0 in
    rw length-append (upto (length (cuts_of m x) + length (clamps_of m x)) (is_of m is_segment x) segment many)
  where
    upto : (n : ℕ) (b : Bool) → b ≡ true → (b && nat_lt most_marks n) ≡ false → n ≤ most_marks
    upto n true is h = grind (arith, nat_tests)
    upto n false is h = absurd cc

few_if : (m : List Statement) (x : ℕ) (ys : List ℕ) → IsFaultless m → ((y : ℕ) → Among ys y → segment_of m y ≡ Some x) → AllPairs (λ y z. y ≢ z) ys → length ys ≤ most_marks
few_if m x [] faultless on different = omega arith
few_if m x (y ∷ ys) faultless on different =
    let segment = (on_segment m x y faultless (on y (inl refl))).0 in
    let upto : length (y ∷ ys) ≤ length (cuts_of m x ++ clamps_of m x) = different_no_more (y ∷ ys) (cuts_of m x ++ clamps_of m x) different (λ z there. elim (mark_listed m x z (on z there)) [
      | inl cut ↦ among_left (cuts_of m x) (clamps_of m x) z cut
      | inr clamp ↦ among_right (cuts_of m x) (clamps_of m x) z clamp
    ]) in
    let most : length (cuts_of m x ++ clamps_of m x) ≤ most_marks = few_listed m x faultless segment in
    omega arith

-- ---- no cut is at the place of another

no_cut_at : (m : List Statement) (x y z : ℕ) → IsFaultless m → segment_of m y ≡ Some x → segment_of m z ≡ Some x → y ≢ z → mark_length m y ≡ mark_length m z → is_of m is_cut y ≡ false
no_cut_at m x y z faultless on on' other same = false_from_ne_true (is_of m is_cut y) (λ cut. cut_apart m x y z faultless cut on on' other same)

two_apart : (m : List Statement) (x y z : ℕ) → IsFaultless m → segment_of m y ≡ Some x → segment_of m z ≡ Some x → y ≢ z → (mark m y).length ≡ (mark m z).length → ((mark m y).divides ≡ false) × ((mark m z).divides ≡ false)
two_apart m x y z faultless on on' other same =
    (no_cut_at m x y z faultless on on' other (ap mm_of same), no_cut_at m x z y faultless on' on (λ is. other (sym is)) (sym (ap mm_of same)))

-- ---- so they are marks of a line

pub are_marks : (m : List Statement) (x : ℕ) → IsFaultless m → AreMarks (marks_of m x)
unfolding standing
are_marks m x faultless = record {
  few = rw length-map (few_if m x (standing m x) faultless (stands m x) (differ m x));
  within = All-map (λ (mark : Mark). mark.length.mm ≤ most_length) (mark m) (standing m x) (λ k d below. mark_within m _);
  different = pairs_map (λ (a b : Mark). ¬ (a.id ≡ b.id)) (mark m) (standing m x) (pairs_follow (λ y z. y ≢ z) (λ y z. ¬ (as_id y ≡ as_id z)) (standing m x) (λ y z here there other same. other (ap number_of_id same)) (differ m x));
  apart = pairs_map (λ (a b : Mark). a.length ≡ b.length → (a.divides ≡ false) × (b.divides ≡ false)) (mark m) (standing m x)
      (pairs_follow (λ y z. y ≢ z) (λ y z. (mark m y).length ≡ (mark m z).length → ((mark m y).divides ≡ false) × ((mark m z).divides ≡ false)) (standing m x)
      (λ y z here there other. two_apart m x y z faultless (stands m x y here) (stands m x z there) other) (differ m x));
}
