-- Spots share a section exactly where as many cuts lie below the one as below the other.
use Rattle.std.proofs.Common.{◌≡◌, ℕ, ◌<◌, ◌≤◌, ◌⊎◌, inl, inr, ◌&&◌, List, get_or, Contains, Bool, true, false, refl, ap, ◌∙◌, arith}
use Rattle.std.specs.Prelude.{nat_lt}
use Rattle.std.specs.List.{count_by}
use Rattle.std.proofs.lemmas.Bool.Decides.{nat_tests}
use Rattle.std.proofs.lemmas.List.{get_or_default}
use Rattle.std.proofs.lemmas.List.Elements.{Contains-get_or}
use Rattle.plain_laws.proofs.Counts.{count_alike, count_fewer}
use Rattle.segment_cuts.specs.declared.mark.Mark.{Mark}
use Rattle.segment_cuts.specs.declared.mark.Spot.{Spot}
use Rattle.segment_cuts.specs.Sections.{AreMarks, IsOn, number, cut_number, ShareSection, LiesBetween, section_index}
use Rattle.segment_cuts.proofs.MarkLists.{never_at_cut}

-- whether a mark is a cut with a number below another
abbrev pub lies_below : ℕ → Mark → Bool
lies_below n m = m.divides && nat_lt (cut_number m) n

pub below : (n c : ℕ) (b : Bool) → b ≡ true → c < n → (b && nat_lt c n) ≡ true
below n c b cut less = grind (arith, nat_tests)

pub not_below : (n c : ℕ) (b : Bool) → n ≤ c → (b && nat_lt c n) ≡ false
not_below n c false upto = refl
not_below n c true upto = grind (arith, nat_tests)

-- two numbers with the same cuts below
pub alike_below : (a z c : ℕ) (b : Bool) → (b ≡ true → (c < a → c < z) × (c < z → c < a)) → (b && nat_lt c a) ≡ (b && nat_lt c z)
alike_below a z c false same = refl
alike_below a z c true same = let both : (c < a → c < z) × (c < z → c < a) = same refl in grind (arith, nat_tests)

wider_below : (a z c : ℕ) (b : Bool) → a ≤ z → (b && nat_lt c a) ≡ true → (b && nat_lt c z) ≡ true
wider_below a z c b upto is = grind (arith, nat_tests)

-- a greater number has more below where it has a cut below that the lesser has not
more_below : (marks : List Mark) (a z : ℕ) (m : Mark) → Contains marks m → m.divides ≡ true → a ≤ cut_number m → cut_number m < z → count_by (lies_below a) marks < count_by (lies_below z) marks
more_below marks a z m here cut upto less =
    count_fewer (lies_below a) (lies_below z) marks (λ k d within. wider_below a z (cut_number (get_or marks k d)) (get_or marks k d).divides (omega arith)) here.0 here.1
    (λ d. ap (lies_below a) (at d) ∙ not_below a (cut_number m) m.divides upto)
    (λ d. ap (lies_below z) (at d) ∙ below z (cut_number m) m.divides cut less)
  where
    at : (d : Mark) → get_or marks here.0 d ≡ m
    at d = get_or_default marks here.0 d m here.1 ∙ here.2

pub shared_level : (marks : List Mark) → AreMarks marks → (s t : Spot) → IsOn marks s → IsOn marks t → ShareSection marks s t → section_index marks s ≡ section_index marks t
shared_level marks are s t first second share = count_alike (lies_below (number marks s)) (lies_below (number marks t)) marks (λ k d within.
    alike_below (number marks s) (number marks t) (cut_number (get_or marks k d)) (get_or marks k d).divides (λ cut.
    let here : Contains marks (get_or marks k d) = Contains-get_or marks k d within in
    both (get_or marks k d) (share (get_or marks k d) here cut) (never_at_cut marks are (get_or marks k d) here cut s first) (never_at_cut marks are (get_or marks k d) here cut t second)))
  where
    both : (m : Mark) → ¬ (LiesBetween (cut_number m) (number marks s) (number marks t)) → (number marks s < cut_number m) ⊎ (cut_number m < number marks s) → (number marks t < cut_number m) ⊎ (cut_number m < number marks t)
        → (cut_number m < number marks s → cut_number m < number marks t) × (cut_number m < number marks t → cut_number m < number marks s)
    both m none (inl a) (inl b) = ((λ h. absurd (omega arith)), (λ h. absurd (omega arith)))
    both m none (inl a) (inr b) = absurd (none (inl (a, b)))
    both m none (inr a) (inl b) = absurd (none (inr (b, a)))
    both m none (inr a) (inr b) = ((λ h. b), (λ h. a))

pub level_shared : (marks : List Mark) (s t : Spot) → section_index marks s ≡ section_index marks t → ShareSection marks s t
level_shared marks s t same m here cut (inl between) =
    let more : section_index marks s < section_index marks t = more_below marks (number marks s) (number marks t) m here cut (omega arith) between.1 in omega arith
level_shared marks s t same m here cut (inr between) =
    let more : section_index marks t < section_index marks s = more_below marks (number marks t) (number marks s) m here cut (omega arith) between.1 in omega arith
