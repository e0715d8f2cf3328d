-- A segment has one list of sections.
use Rattle.std.proofs.Common.{◌≡◌, ℕ, suc, ◌+◌, ◌<◌, inl, inr, ◌↔◌, List, [], ◌∷◌, ◌++◌, length, get_or, Contains, refl, sym, ap, ◌∙◌, subst, arith}
use Rattle.std.specs.List.{All, AllPairs}
use Rattle.std.proofs.lemmas.List.Elements.{All-head, All-tail}
use Rattle.plain_laws.proofs.Each.{all_flat_map}
use Rattle.plain_laws.proofs.Sorted.{one_in_order}
use Rattle.segment_cuts.specs.declared.mark.Mark.{Mark}
use Rattle.segment_cuts.specs.declared.mark.Spot.{Spot}
use Rattle.segment_cuts.specs.Sections.{AreMarks, AreSections, Precedes, all_spots, section_index}
use Rattle.segment_cuts.proofs.Counting.{levels_of_sections}

-- ---- two lists in order with the same spots are one

one_way : (marks : List Mark) (s t : Spot) → Precedes marks s t → Precedes marks t s → ⊥
one_way marks s t (inl a) (inl b) = omega arith
one_way marks s t (inl a) (inr b) = omega arith
one_way marks s t (inr a) (inl b) = omega arith
one_way marks s t (inr a) (inr b) = omega arith

one_line : (marks : List Mark) (ss ts : List Spot) → AllPairs (Precedes marks) ss → AllPairs (Precedes marks) ts → ((u : Spot) → Contains ss u ↔ Contains ts u) → ss ≡ ts
one_line marks ss ts first second same = one_in_order (Precedes marks) ss ts (one_way marks) first second (λ u. (same u).0) (λ u. (same u).1)

-- ---- sections of one line at ascending levels are one

same_parts : (level : Spot → ℕ) (n : ℕ) (p q xs ys : List Spot) → All (λ s. level s ≡ n) p → All (λ s. level s ≡ n) q → All (λ s. n < level s) xs → All (λ s. n < level s) ys → p ++ xs ≡ q ++ ys → (p ≡ q) × (xs ≡ ys)
same_parts level n [] [] xs ys first second above beyond same = (refl, same)
same_parts level n [] (t ∷ ts) xs ys first second above beyond same =
    absurd (let is : level t ≡ n = All-head (λ (s : Spot). level s ≡ n) t ts second in
    let more : n < level t = All-head (λ (s : Spot). n < level s) t (ts ++ ys) (subst (All (λ (s : Spot). n < level s)) same above) in omega arith)
same_parts level n (s ∷ ss) [] xs ys first second above beyond same =
    absurd (let is : level s ≡ n = All-head (λ (x : Spot). level x ≡ n) s ss first in
    let more : n < level s = All-head (λ (x : Spot). n < level x) s (ss ++ xs) (subst (All (λ (x : Spot). n < level x)) (sym same) beyond) in omega arith)
same_parts level n (s ∷ ss) (t ∷ ts) xs ys first second above beyond same =
    let front : s ≡ t = cc in
    let behind : ss ++ xs ≡ ts ++ ys = cc in
    let rest = same_parts level n ss ts xs ys (All-tail (λ (x : Spot). level x ≡ n) s ss first) (All-tail (λ (x : Spot). level x ≡ n) t ts second) above beyond behind in
    (ap (λ (x : Spot). x ∷ ss) front ∙ ap (λ (zs : List Spot). t ∷ zs) rest.0, rest.1)

record StandFrom (level : Spot → ℕ) (n : ℕ) (ps : List (List Spot)) : Type 0 where
  filled : All (λ (p : List Spot). 0 < length p) ps
  levels : (i : ℕ) (d : List Spot) → i < length ps → All (λ (s : Spot). level s ≡ n + i) (get_or ps i d)

stand_later : (level : Spot → ℕ) (n : ℕ) (p : List Spot) (ps : List (List Spot)) → StandFrom level n (p ∷ ps) → StandFrom level (n + 1) ps
stand_later level n p ps stand = record {
  filled = All-tail (λ (x : List Spot). 0 < length x) p ps stand.filled;
  levels = λ i d within k e below. let is : level (get_or (get_or ps i d) k e) ≡ n + suc i = stand.levels (suc i) d (omega arith) k e below in omega arith;
}

first_level : (level : Spot → ℕ) (n : ℕ) (p : List Spot) (ps : List (List Spot)) → StandFrom level n (p ∷ ps) → All (λ (s : Spot). level s ≡ n) p
first_level level n p ps stand k e below = let is : level (get_or p k e) ≡ n + 0 = stand.levels 0 p (omega arith) k e below in omega arith

above_first : (level : Spot → ℕ) (n : ℕ) (p : List Spot) (ps : List (List Spot)) → StandFrom level n (p ∷ ps) → All (λ (s : Spot). n < level s) (all_spots ps)
above_first level n p ps stand = all_flat_map (λ (s : Spot). n < level s) (λ (x : List Spot). x) ps (λ x here.
    subst (All (λ (s : Spot). n < level s)) here.2 (λ k e below.
    let inside : here.0 < length ps = here.1 in
    let is : level (get_or (get_or ps here.0 x) k e) ≡ n + suc here.0 = stand.levels (suc here.0) x (omega arith) k e below in omega arith))

one_cutting : (level : Spot → ℕ) (n : ℕ) (ps qs : List (List Spot)) → StandFrom level n ps → StandFrom level n qs → all_spots ps ≡ all_spots qs → ps ≡ qs
one_cutting level n [] [] first second same = refl
one_cutting level n [] ([] ∷ qs) first second same = absurd (let some : 0 < 0 = second.filled 0 [] (omega arith) in omega arith)
one_cutting level n [] ((t ∷ ts) ∷ qs) first second same = cc
one_cutting level n ([] ∷ ps) [] first second same = absurd (let some : 0 < 0 = first.filled 0 [] (omega arith) in omega arith)
one_cutting level n ((s ∷ ss) ∷ ps) [] first second same = cc
one_cutting level n (p ∷ ps) (q ∷ qs) first second same =
    let parts = same_parts level n p q (all_spots ps) (all_spots qs) (first_level level n p ps first) (first_level level n q qs second) (above_first level n p ps first) (above_first level n q qs second) same in
    let rest : ps ≡ qs = one_cutting level (n + 1) ps qs (stand_later level n p ps first) (stand_later level n q qs second) parts.1 in
    ap (λ (x : List Spot). x ∷ ps) parts.0 ∙ ap (λ (xs : List (List Spot)). q ∷ xs) rest

stand_from_zero : (marks : List Mark) → AreMarks marks → (sections : List (List Spot)) → AreSections marks sections → StandFrom (section_index marks) 0 sections
stand_from_zero marks allowed sections are = record {
  filled = are.filled;
  levels = λ i d within k e below. let is : section_index marks (get_or (get_or sections i d) k e) ≡ i = levels_of_sections marks allowed sections are i d within k e below in omega arith;
}

pub determined : (marks : List Mark) (these those : List (List Spot)) → AreMarks marks → AreSections marks these → AreSections marks those → these ≡ those
determined marks these those allowed first second =
    one_cutting (section_index marks) 0 these those (stand_from_zero marks allowed these first) (stand_from_zero marks allowed those second)
    (one_line marks (all_spots these) (all_spots those) first.ordered second.ordered (λ s. ((λ here. (second.complete s).1 ((first.complete s).0 here)), (λ here. (first.complete s).1 ((second.complete s).0 here)))))
