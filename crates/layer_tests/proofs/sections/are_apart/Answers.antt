use Rattle.std.proofs.Common.{◌≡◌, ℕ, ◌+◌, ◌-◌, ◌<◌, ◌≤◌, ◌⊎◌, inl, inr, List, length, get_or, take, drop, false, ap, ◌∙◌, subst, arith}
use Rattle.std.specs.List.{All}
use Rattle.std.proofs.lemmas.Bool.{cases_lt}
use Rattle.std.proofs.lemmas.List.{take_rest, get_or-drop, get_or_default, length-drop}
use Rattle.segment_cuts.specs.declared.mark.Mark.{Mark}
use Rattle.layer_tests.proofs.sections.are_apart.Goals as goal

-- pairs whose first item is before an index, and one more
more_pairs : (R : Mark → Mark → Type 0) (xs : List Mark) (n : ℕ) (e : Mark) → n < length xs → ((i j : ℕ) (d : Mark) → i < n → i < j → j < length xs → R (get_or xs i d) (get_or xs j d))
    → All (R (get_or xs n e)) (take (length xs - (n + 1)) (drop (n + 1) xs)) → (i j : ℕ) (d : Mark) → i < n + 1 → i < j → j < length xs → R (get_or xs i d) (get_or xs j d)
more_pairs R xs n e within before rest i j d upto less below = cases (cases_lt i n)
  where
    later : All (R (get_or xs n e)) (drop (n + 1) xs)
    later = subst (All (R (get_or xs n e))) (take_rest xs (n + 1)) rest

    cases : (i < n) ⊎ (n ≤ i) → R (get_or xs i d) (get_or xs j d)
    cases (inl front) = before i j d front less below
    cases (inr last) =
        let same : n ≡ i = omega arith in
        let there : (n + 1) + (j - (n + 1)) ≡ j = omega arith in
        let at : get_or (drop (n + 1) xs) (j - (n + 1)) d ≡ get_or xs j d = get_or-drop (n + 1) xs (j - (n + 1)) d ∙ ap (λ (k : ℕ). get_or xs k d) there in
        let first : get_or xs n e ≡ get_or xs i d = get_or_default xs n e d within ∙ ap (λ (k : ℕ). get_or xs k d) same in
        subst (λ (x : Mark). R x (get_or xs j d)) first (subst (R (get_or xs n e)) at (later (j - (n + 1)) d (omega (arith, length-drop (n + 1) xs))))

pub loop-index-preserved : goal.loop-index-preserved
loop-index-preserved c = (
  more_pairs (λ (m n : Mark). ¬ (m.id ≡ n.id)) c.args.marks.now c.loop-index.index _ c.loop-index-test.true c.loop-index.invariant.0 c.if-not-goes_with_all.ensures.different,
  more_pairs (λ (m n : Mark). m.length ≡ n.length → (m.divides ≡ false) × (n.divides ≡ false)) c.args.marks.now c.loop-index.index _ c.loop-index-test.true c.loop-index.invariant.1 c.if-not-goes_with_all.ensures.apart,
)
