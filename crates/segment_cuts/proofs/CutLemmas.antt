-- A line that is cut up spot by spot.
use Rattle.std.proofs.Common.{◌≡◌, ℕ, zero, suc, ◌+◌, ◌<◌, ◌≤◌, ◌⊎◌, inl, inr, List, [], ◌∷◌, ◌++◌, length, take, get_or, Bool, true, false, cond, refl, sym, ap, ◌∙◌, subst, arith, append_assoc}
use Rattle.std.specs.List.{All}
use Rattle.std.proofs.lemmas.Bool.{cases_lt}
use Rattle.std.proofs.lemmas.List.{append-nil, take_more, take_all, get_or_default, get_or_append_left, get_or_push, length_push, length-map, get_or-map}
use Rattle.std.proofs.lemmas.List.Elements.{All-push, All-nil, All-cons}
use Rattle.std.proofs.lemmas.List.Concat.{flat_map-append}
use Rattle.segment_cuts.specs.declared.mark.Spot.{Spot}
use Rattle.segment_cuts.specs.Sections.{all_spots}
use Rattle.segment_cuts.specs.Line.{Rises, AreLevels, IsCutUp, begins, spots}
use Rattle.segment_cuts.specs.declared.line.Placed.{Placed}

abbrev pub IsFilled : List Spot → Type 0
IsFilled section = 0 < length section

-- the levels of the closed sections and of the open one, where so many spots are done
pub record AreLevelsSoFar (level : Spot → ℕ) (line : List Spot) (i : ℕ) (closed : List (List Spot)) (last : List Spot) : Type 0 where
  pub filled : All IsFilled closed
  pub opened : 0 < i → 0 < length last
  pub levels : AreLevels level closed
  pub here : All (λ (s : Spot). level s ≡ length closed) last
  pub before : (k : ℕ) (d : Spot) → k + 1 ≡ i → level (get_or line k d) ≡ length closed
  pub start : i ≡ 0 → length closed ≡ 0

pub record IsCutSoFar (line : List Spot) (i : ℕ) (closed : List (List Spot)) (last : List Spot) : Type 0 where
  pub whole : all_spots closed ++ last ≡ take i line
  pub levels : (level : Spot → ℕ) → Rises level line → AreLevelsSoFar level line i closed last

pub cut_begins : (line : List Spot) → IsCutSoFar line 0 [] []
cut_begins line = record {
  whole = refl;
  levels = λ level rises. record {
    filled = All-nil IsFilled;
    opened = λ h. absurd (omega arith);
    levels = λ i d h. absurd (omega arith);
    here = All-nil (λ (s : Spot). level s ≡ 0);
    before = λ k d h. absurd (omega arith);
    start = λ h. refl;
  };
}

-- the level of the next spot
next_level : (level : Spot → ℕ) (line : List Spot) → Rises level line → (i : ℕ) (closed : List (List Spot)) (last : List Spot) → AreLevelsSoFar level line i closed last → i < length line → (d : Spot)
    → (level (get_or line i d) ≡ length closed + cond (begins (get_or line i d)) 1 0) × (begins (get_or line i d) ≡ true → 0 < i)
next_level level line rises zero closed last so within d =
    let first : (level (get_or line 0 d) ≡ 0) × (begins (get_or line 0 d) ≡ false) = rises.first d within in
    let none : length closed ≡ 0 = so.start refl in
    let flat : cond {A = ℕ} (begins (get_or line 0 d)) 1 0 ≡ 0 = ap (λ (b : Bool). cond {A = ℕ} b 1 0) first.1 in
    (omega arith, (λ h. cc))
next_level level line rises (suc k) closed last so within d =
    let step : level (get_or line (k + 1) d) ≡ level (get_or line k d) + cond (begins (get_or line (k + 1) d)) 1 0 = rises.next k d (omega arith) in
    let was : level (get_or line k d) ≡ length closed = so.before k d (omega arith) in
    let same : k + 1 ≡ suc k = omega arith in
    (subst (λ (n : ℕ). level (get_or line n d) ≡ length closed + cond (begins (get_or line n d)) 1 0) same (step ∙ ap (λ (n : ℕ). n + cond (begins (get_or line (k + 1) d)) 1 0) was), (λ h. omega arith))

-- one more section at its level
levels_push : (level : Spot → ℕ) (closed : List (List Spot)) (last : List Spot) → AreLevels level closed → All (λ (s : Spot). level s ≡ length closed) last → AreLevels level (closed ++ last ∷ [])
levels_push level closed last levels here i d within = cases (cases_lt i (length closed))
  where
    cases : (i < length closed) ⊎ (length closed ≤ i) → All (λ (s : Spot). level s ≡ i) (get_or (closed ++ last ∷ []) i d)
    cases (inl less) = subst (All (λ (s : Spot). level s ≡ i)) (sym (get_or_append_left closed (last ∷ []) d i less)) (levels i d less)
    cases (inr most) =
        let count : length (closed ++ last ∷ []) ≡ length closed + 1 = length_push closed last in
        let same : length closed ≡ i = omega arith in
        subst (All (λ (s : Spot). level s ≡ i)) (sym (get_or_push closed last d i same)) (subst (λ (n : ℕ). All (λ (s : Spot). level s ≡ n) last) same here)

spots_push : (closed : List (List Spot)) (last : List Spot) → all_spots (closed ++ last ∷ []) ≡ all_spots closed ++ last
spots_push closed last = flat_map-append (λ (section : List Spot). section) closed (last ∷ []) ∙ ap (λ (rest : List Spot). all_spots closed ++ rest) (append-nil last)

-- one more spot that begins a section, and one that does not
cut_at : (line : List Spot) (i : ℕ) (closed : List (List Spot)) (last : List Spot) (s : Spot) → IsCutSoFar line i closed last → i < length line → get_or line i s ≡ s → (b : Bool) → begins s ≡ b
    → IsCutSoFar line (i + 1) (cond b (closed ++ last ∷ []) closed) (cond b (s ∷ []) (last ++ s ∷ []))
cut_at line i closed last s so within is true new = record {
  whole = ap (λ (front : List Spot). front ++ s ∷ []) (spots_push closed last ∙ so.whole) ∙ sym taken;
  levels = λ level rises. at level rises (so.levels level rises);
}
  where
    taken : take (i + 1) line ≡ take i line ++ s ∷ []
    taken = take_more line i s within ∙ ap (λ (x : Spot). take i line ++ x ∷ []) is

    at : (level : Spot → ℕ) → Rises level line → AreLevelsSoFar level line i closed last → AreLevelsSoFar level line (i + 1) (closed ++ last ∷ []) (s ∷ [])
    at level rises old =
        let next = next_level level line rises i closed last old within in
        let count : length (closed ++ last ∷ []) ≡ length closed + 1 = length_push closed last in
        let here : (d : Spot) → level (get_or line i d) ≡ length closed + 1 = λ d. (next d).0 ∙ ap (λ (x : Spot). length closed + cond (begins x) 1 0) (get_or_default line i d s within ∙ is) ∙ ap (λ (b : Bool). length closed + cond b 1 0) new in
        let there : level s ≡ length closed + 1 = ap level (sym is) ∙ here s in
        record {
          filled = All-push IsFilled closed last old.filled (old.opened ((next s).1 (ap begins is ∙ new)));
          opened = λ h. omega arith;
          levels = levels_push level closed last old.levels old.here;
          here = All-cons (λ (x : Spot). level x ≡ length (closed ++ last ∷ [])) s [] (there ∙ sym count) (All-nil (λ (x : Spot). level x ≡ length (closed ++ last ∷ [])));
          before = λ k d e. let same : i ≡ k = omega arith in subst (λ (n : ℕ). level (get_or line n d) ≡ length (closed ++ last ∷ [])) same (here d ∙ sym count);
          start = λ h. absurd (omega arith);
        }
cut_at line i closed last s so within is false new = record {
  whole = sym (append_assoc (all_spots closed) last (s ∷ [])) ∙ ap (λ (front : List Spot). front ++ s ∷ []) so.whole ∙ sym taken;
  levels = λ level rises. at level rises (so.levels level rises);
}
  where
    taken : take (i + 1) line ≡ take i line ++ s ∷ []
    taken = take_more line i s within ∙ ap (λ (x : Spot). take i line ++ x ∷ []) is

    at : (level : Spot → ℕ) → Rises level line → AreLevelsSoFar level line i closed last → AreLevelsSoFar level line (i + 1) closed (last ++ s ∷ [])
    at level rises old =
        let next = next_level level line rises i closed last old within in
        let count : length (last ++ s ∷ []) ≡ length last + 1 = length_push last s in
        let here : (d : Spot) → level (get_or line i d) ≡ length closed + 0 = λ d. (next d).0 ∙ ap (λ (x : Spot). length closed + cond (begins x) 1 0) (get_or_default line i d s within ∙ is) ∙ ap (λ (b : Bool). length closed + cond b 1 0) new in
        let there : level s ≡ length closed + 0 = ap level (sym is) ∙ here s in
        record {
          filled = old.filled;
          opened = λ h. omega arith;
          levels = old.levels;
          here = All-push (λ (x : Spot). level x ≡ length closed) last s old.here (omega arith);
          before = λ k d e. let same : i ≡ k = omega arith in let now : level (get_or line i d) ≡ length closed + 0 = here d in subst (λ (n : ℕ). level (get_or line n d) ≡ length closed) same (omega arith);
          start = λ h. absurd (omega arith);
        }

pub cut_more : (line : List Spot) (i : ℕ) (closed closed' : List (List Spot)) (last last' : List Spot) (s : Spot) → i < length line → get_or line i s ≡ s
    → closed' ≡ cond (begins s) (closed ++ last ∷ []) closed → last' ≡ cond (begins s) (s ∷ []) (last ++ s ∷ []) → IsCutSoFar line i closed last → IsCutSoFar line (i + 1) closed' last'
cut_more line i closed closed' last last' s within is sections section so =
    subst (λ (x : List (List Spot)). IsCutSoFar line (i + 1) x last') (sym sections) (subst (λ (x : List Spot). IsCutSoFar line (i + 1) (cond (begins s) (closed ++ last ∷ []) closed) x) (sym section) (cut_at line i closed last s so within is (begins s) refl))

pub cut_ends : (line : List Spot) (i : ℕ) (closed : List (List Spot)) (last : List Spot) → 0 < length line → length line ≤ i → IsCutSoFar line i closed last → IsCutUp line (closed ++ last ∷ [])
cut_ends line i closed last some all so = record {
  whole = spots_push closed last ∙ so.whole ∙ take_all i line all;
  filled = λ level rises. All-push IsFilled closed last (so.levels level rises).filled ((so.levels level rises).opened (omega arith));
  levels = λ level rises. levels_push level closed last (so.levels level rises).levels (so.levels level rises).here;
}

-- one more placed spot
pub cut_placed : (line : List Placed) (i : ℕ) (d : Placed) (closed closed' : List (List Spot)) (last last' : List Spot) → i < length line
    → closed' ≡ cond (begins (get_or line i d).spot) (closed ++ last ∷ []) closed → last' ≡ cond (begins (get_or line i d).spot) ((get_or line i d).spot ∷ []) (last ++ (get_or line i d).spot ∷ [])
    → IsCutSoFar (spots line) i closed last → IsCutSoFar (spots line) (i + 1) closed' last'
cut_placed line i d closed closed' last last' within sections section so =
    let inside : i < length (spots line) = omega (arith, length-map line (λ (p : Placed). p.spot)) in
    cut_more (spots line) i closed closed' last last' (get_or line i d).spot inside (get_or-map (λ (p : Placed). p.spot) line i d (get_or line i d).spot within) sections section so
