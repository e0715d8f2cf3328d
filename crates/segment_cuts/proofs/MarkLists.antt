-- The marks of a segment, and where their spots are.
use Rattle.std.proofs.Common.{◌≡◌, ℕ, zero, suc, ◌<◌, ◌≤◌, ◌⊎◌, inl, inr, ◌==◌, List, [], ◌∷◌, length, get_or, Contains, Bool, true, false, cond, refl, sym, ap, ◌∙◌, subst, arith}
use Rattle.std.specs.List.{AllPairs}
use Rattle.std.proofs.lemmas.Bool.{cases_lt}
use Rattle.std.proofs.lemmas.Bool.Decides.{nat_tests}
use Rattle.std.proofs.lemmas.List.Elements.{All-contains}
use Rattle.cim_words.proofs.Statements.{same_id}
use Rattle.plain_laws.proofs.Pairs.{pairs_any}
use Rattle.plain_laws.proofs.Truth.{never_both}
use Rattle.cim_words.specs.Limits.{most_length}
use Rattle.cim_words.specs.declared.identifier.Id.{Id}
use Rattle.segment_cuts.specs.declared.mark.Mark.{Mark}
use Rattle.segment_cuts.specs.declared.mark.Spot.{Spot}
use Rattle.segment_cuts.specs.declared.mark.Spot.TheVariants.{EndOne, EndTwo, Clamp, CutOne, CutTwo}
use Rattle.segment_cuts.specs.Sections.{AreMarks, IsOn, length_of, number, cut_number}

-- ---- two items of a list whose items stand in a relation, one way or the other

-- ---- the length of a mark

passed_over : (m : Mark) (ms : List Mark) (id : Id) → (m.id ≡ id → ⊥) → (b : Bool) → (m.id.number == id.number) ≡ b → cond b m.length.mm (length_of ms id) ≡ length_of ms id
passed_over m ms id other false is = refl
passed_over m ms id other true is = absurd (other (same_id m.id id (grind (arith, nat_tests))))

found : (m : Mark) (ms : List Mark) (b : Bool) → (m.id.number == m.id.number) ≡ b → cond b m.length.mm (length_of ms m.id) ≡ m.length.mm
found m ms true is = refl
found m ms false is = absurd (grind (arith, nat_tests))

length_at : (marks : List Mark) → AllPairs (λ (m n : Mark). ¬ (m.id ≡ n.id)) marks → (i : ℕ) (d : Mark) → i < length marks → length_of marks (get_or marks i d).id ≡ (get_or marks i d).length.mm
length_at [] different i d within = absurd (omega arith)
length_at (m ∷ ms) different zero d within = found m ms _ refl
length_at (m ∷ ms) different (suc i) d within =
    passed_over m ms (get_or ms i d).id (different 0 (suc i) d (omega arith) within) _ refl
    ∙ length_at ms (λ a b e less below. different (suc a) (suc b) e (omega arith) (omega arith)) i d (omega arith)

pub length_is : (marks : List Mark) → AreMarks marks → (m : Mark) → Contains marks m → length_of marks m.id ≡ m.length.mm
length_is marks are m here = subst (λ (n : Mark). length_of marks n.id ≡ n.length.mm) here.2 (length_at marks are.different here.0 m here.1)

pub length_of_mark : (marks : List Mark) → AreMarks marks → (id : Id) (m : Mark) → Contains marks m → m.id ≡ id → length_of marks id ≡ m.length.mm
length_of_mark marks are id m here same = ap (length_of marks) (sym same) ∙ length_is marks are m here

pub length_within : (marks : List Mark) → AreMarks marks → (m : Mark) → Contains marks m → m.length.mm ≤ most_length
length_within marks are m here = All-contains (λ (n : Mark). n.length.mm ≤ most_length) marks m are.within here

-- ---- marks at one length

pub one_cut_there : (marks : List Mark) → AreMarks marks → (m n : Mark) → Contains marks m → Contains marks n → m.divides ≡ true → m.length.mm ≡ n.length.mm → m ≡ n
one_cut_there marks are m n here there cut same = cases (pairs_any (λ (a b : Mark). a.length ≡ b.length → (a.divides ≡ false) × (b.divides ≡ false)) marks are.apart m n here there)
  where
    at : m.length ≡ n.length
    at = ap (λ (n : ℕ). record { mm = n }) same

    cases : (m.length ≡ n.length → (m.divides ≡ false) × (n.divides ≡ false)) ⊎ ((m ≡ n) ⊎ (n.length ≡ m.length → (n.divides ≡ false) × (m.divides ≡ false))) → m ≡ n
    cases (inl before) = absurd (never_both m.divides cut (before at).0)
    cases (inr (inl is)) = is
    cases (inr (inr after)) = absurd (never_both m.divides cut (after (sym at)).1)

-- ---- no spot has the number of a cut itself

at_cut : (marks : List Mark) → AreMarks marks → (m : Mark) → Contains marks m → m.divides ≡ true → (s : Spot) → IsOn marks s → number marks s ≡ cut_number m → ⊥
at_cut marks are m here cut EndOne on is = omega arith
at_cut marks are m here cut EndTwo on is = let within : m.length.mm ≤ most_length = length_within marks are m here in omega arith
at_cut marks are m here cut (CutOne id) on is = omega arith
at_cut marks are m here cut (CutTwo id) on is = omega arith
at_cut marks are m here cut (Clamp id) on is =
    let there : length_of marks id ≡ on.0.length.mm = length_of_mark marks are id on.0 on.1 on.2 in
    let same : m ≡ on.0 = one_cut_there marks are m on.0 here on.1 cut (omega arith) in
    never_both m.divides cut (ap (λ (n : Mark). n.divides) same ∙ on.3)

pub never_at_cut : (marks : List Mark) → AreMarks marks → (m : Mark) → Contains marks m → m.divides ≡ true → (s : Spot) → IsOn marks s → (number marks s < cut_number m) ⊎ (cut_number m < number marks s)
never_at_cut marks are m here cut s on = cases (cases_lt (number marks s) (cut_number m)) (cases_lt (cut_number m) (number marks s))
  where
    cases : (number marks s < cut_number m) ⊎ (cut_number m ≤ number marks s) → (cut_number m < number marks s) ⊎ (number marks s ≤ cut_number m) → (number marks s < cut_number m) ⊎ (cut_number m < number marks s)
    cases (inl less) _ = inl less
    cases _ (inl more) = inr more
    cases (inr upto) (inr downto) = absurd (at_cut marks are m here cut s on (omega arith))

-- ---- a mark stands at one index

two_indices : (marks : List Mark) → AllPairs (λ (m n : Mark). ¬ (m.id ≡ n.id)) marks → (i j : ℕ) (d : Mark) → i < j → j < length marks → get_or marks i d ≡ get_or marks j d → ⊥
two_indices marks different i j d less below same = different i j d less below (ap (λ (m : Mark). m.id) same)

pub one_index : (marks : List Mark) → AreMarks marks → (i j : ℕ) (d : Mark) → i < length marks → j < length marks → get_or marks i d ≡ get_or marks j d → i ≡ j
one_index marks are i j d here there same = cases (cases_lt i j) (cases_lt j i)
  where
    cases : (i < j) ⊎ (j ≤ i) → (j < i) ⊎ (i ≤ j) → i ≡ j
    cases (inl less) _ = absurd (two_indices marks are.different i j d less there same)
    cases _ (inl more) = absurd (two_indices marks are.different j i d more here (sym same))
    cases (inr upto) (inr downto) = omega arith
