-- Sections that the definition admits stand at their levels, and there is one list of them.
use Rattle.std.proofs.Common.{◌≡◌, ℕ, zero, suc, ◌+◌, ◌<◌, ◌≤◌, ◌⊎◌, inl, inr, List, [], ◌∷◌, ◌++◌, length, get_or, Contains, cond, Bool, true, false, sym, ◌∙◌, subst, arith}
use Rattle.std.specs.List.{All, AllPairs}
use Rattle.std.proofs.lemmas.Bool.{cases_lt}
use Rattle.std.proofs.lemmas.List.{get_or_default}
use Rattle.std.proofs.lemmas.List.Elements.{Contains-get_or, All-head, All-tail}
use Rattle.plain_laws.proofs.Members.{contains_first}
use Rattle.plain_laws.proofs.Pairs.{pairs_across, pairs_second}
use Rattle.segment_cuts.specs.declared.mark.Mark.{Mark}
use Rattle.segment_cuts.specs.declared.mark.Spot.{Spot}
use Rattle.segment_cuts.specs.Sections.{AreMarks, AreSections, IsOn, Precedes, StandTogether, all_spots, section_index}
use Rattle.segment_cuts.specs.Line.{IsLine, Rises, AreLevels, begins}
use Rattle.segment_cuts.proofs.Levels.{shared_level, level_shared}
use Rattle.segment_cuts.proofs.Rising.{rising}
use Rattle.segment_cuts.proofs.Together.{in_all, stands_at_level}

-- ---- spots of different sections stand in order

sections_in_order : (R : Spot → Spot → Type 0) (ps : List (List Spot)) → AllPairs R (all_spots ps) → (i j : ℕ) (d : List Spot) → i < j → j < length ps → (s t : Spot) → Contains (get_or ps i d) s → Contains (get_or ps j d) t → R s t
sections_in_order R [] pairs i j d less within s t here there = absurd (omega arith)
sections_in_order R (p ∷ ps) pairs i zero d less within s t here there = absurd (omega arith)
sections_in_order R (p ∷ ps) pairs zero (suc j) d less within s t here there = pairs_across R p (all_spots ps) pairs s t here (in_all ps j d t (omega arith) there)
sections_in_order R (p ∷ ps) pairs (suc i) (suc j) d less within s t here there = sections_in_order R ps (pairs_second R p (all_spots ps) pairs) i j d (omega arith) (omega arith) s t here there

pub precedes_not_itself : (marks : List Mark) (s : Spot) → Precedes marks s s → ⊥
precedes_not_itself marks s (inl less) = omega arith
precedes_not_itself marks s (inr tie) = omega arith

-- a spot stands in one section
one_section : (marks : List Mark) (ps : List (List Spot)) → AllPairs (Precedes marks) (all_spots ps) → (i j : ℕ) (d : List Spot) → i < length ps → j < length ps → (s : Spot) → Contains (get_or ps i d) s → Contains (get_or ps j d) s → i ≡ j
one_section marks ps ordered i j d first second s here there = cases (cases_lt i j) (cases_lt j i)
  where
    cases : (i < j) ⊎ (j ≤ i) → (j < i) ⊎ (i ≤ j) → i ≡ j
    cases (inl less) _ = absurd (precedes_not_itself marks s (sections_in_order (Precedes marks) ps ordered i j d less second s s here there))
    cases _ (inl more) = absurd (precedes_not_itself marks s (sections_in_order (Precedes marks) ps ordered j i d more first s s there here))
    cases (inr upto) (inr downto) = omega arith

-- ---- levels that go up along a list by one at most

abbrev Climbs : (Spot → ℕ) → ℕ → List Spot → Type 0
Climbs level n [] = Unit {0}
Climbs level n (s ∷ ss) = ((level s ≡ n) ⊎ (level s ≡ n + 1)) × Climbs level (level s) ss

abbrev Steps : (Spot → ℕ) → List Spot → Type 0
Steps level ss = (i : ℕ) (d : Spot) → i + 1 < length ss → level (get_or ss (i + 1) d) ≡ level (get_or ss i d) + cond (begins (get_or ss (i + 1) d)) 1 0

zero_or_one : (m n : ℕ) (b : Bool) → m ≡ n + cond b 1 0 → (m ≡ n) ⊎ (m ≡ n + 1)
zero_or_one m n true is = inr is
zero_or_one m n false is = inl (omega arith)

climbs_from : (level : Spot → ℕ) (n : ℕ) (ss : List Spot) → ((d : Spot) → 0 < length ss → (level (get_or ss 0 d) ≡ n) ⊎ (level (get_or ss 0 d) ≡ n + 1)) → Steps level ss → Climbs level n ss
climbs_from level n [] first next = tt
climbs_from level n (s ∷ ss) first next = (first s (omega arith), climbs_from level (level s) ss (λ d some. after d some) (λ i d within. later i d within))
  where
    after : (d : Spot) → 0 < length ss → (level (get_or ss 0 d) ≡ level s) ⊎ (level (get_or ss 0 d) ≡ level s + 1)
    after d some = zero_or_one (level (get_or ss 0 d)) (level s) (begins (get_or ss 0 d)) (next 0 d (omega arith))

    later : (i : ℕ) (d : Spot) → i + 1 < length ss → level (get_or ss (i + 1) d) ≡ level (get_or ss i d) + cond (begins (get_or ss (i + 1) d)) 1 0
    later i d within =
        let same : suc i + 1 ≡ suc (i + 1) = omega arith in
        subst (λ (k : ℕ). level (get_or (s ∷ ss) k d) ≡ level (get_or ss i d) + cond (begins (get_or (s ∷ ss) k d)) 1 0) same (next (suc i) d (omega arith))

-- past spots of one level
climbs_past : (level : Spot → ℕ) (n : ℕ) (ss rest : List Spot) → All (λ s. level s ≡ n) ss → Climbs level n (ss ++ rest) → Climbs level n rest
climbs_past level n [] rest same climbs = climbs
climbs_past level n (s ∷ ss) rest same climbs = climbs_past level n ss rest (All-tail (λ (x : Spot). level x ≡ n) s ss same) (subst (λ (m : ℕ). Climbs level m (ss ++ rest)) (All-head (λ (x : Spot). level x ≡ n) s ss same) climbs.1)

-- ---- sections whose levels are their own ascend by one

record AreApart (level : Spot → ℕ) (ps : List (List Spot)) : Type 0 where
  filled : All (λ (p : List Spot). 0 < length p) ps
  same : (i : ℕ) (d : List Spot) → i < length ps → (s t : Spot) → Contains (get_or ps i d) s → Contains (get_or ps i d) t → level s ≡ level t
  other : (i j : ℕ) (d : List Spot) → i < j → j < length ps → (s t : Spot) → Contains (get_or ps i d) s → Contains (get_or ps j d) t → level s ≡ level t → ⊥

apart_later : (level : Spot → ℕ) (p : List Spot) (ps : List (List Spot)) → AreApart level (p ∷ ps) → AreApart level ps
apart_later level p ps apart = record {
  filled = All-tail (λ (x : List Spot). 0 < length x) p ps apart.filled;
  same = λ i d within s t here there. apart.same (suc i) d (omega arith) s t here there;
  other = λ i j d less within s t here there. apart.other (suc i) (suc j) d (omega arith) (omega arith) s t here there;
}

levels_from : (level : Spot → ℕ) (n : ℕ) (p : List Spot) (ps : List (List Spot)) → AreApart level (p ∷ ps) → ((s : Spot) → Contains p s → level s ≡ n) → Climbs level n (all_spots ps)
    → (i : ℕ) (d : List Spot) → i < length (p ∷ ps) → (s : Spot) → Contains (get_or (p ∷ ps) i d) s → level s ≡ n + i
levels_from level n p ps apart first climbs zero d within s here = let is : level s ≡ n = first s here in omega arith
levels_from level n p [] apart first climbs (suc i) d within s here = absurd (omega arith)
levels_from level n p ([] ∷ ps) apart first climbs (suc i) d within s here = absurd (let some : 0 < 0 = apart.filled 1 [] (omega arith) in omega arith)
levels_from level n [] ((t ∷ ts) ∷ ps) apart first climbs (suc i) d within s here = absurd (let some : 0 < 0 = apart.filled 0 [] (omega arith) in omega arith)
levels_from level n (r ∷ rs) ((t ∷ ts) ∷ ps) apart first climbs (suc i) d within s here =
    let is : level s ≡ (n + 1) + i = levels_from level (n + 1) (t ∷ ts) ps (apart_later level (r ∷ rs) ((t ∷ ts) ∷ ps) apart) second past i d (omega arith) s here in
    omega arith
  where
    first_is : level r ≡ n
    first_is = first r (contains_first r rs)

    higher : level t ≡ n + 1
    higher = cases climbs.0
      where
        cases : (level t ≡ n) ⊎ (level t ≡ n + 1) → level t ≡ n + 1
        cases (inl flat) = absurd (apart.other 0 1 [] (omega arith) (omega arith) r t (contains_first r rs) (contains_first t ts) (first_is ∙ sym flat))
        cases (inr up) = up

    second : (x : Spot) → Contains (t ∷ ts) x → level x ≡ n + 1
    second x inside = apart.same 1 [] (omega arith) x t inside (contains_first t ts) ∙ higher

    past : Climbs level (n + 1) (all_spots ps)
    past = climbs_past level (n + 1) ts (all_spots ps) (λ k e below. second (get_or ts k e) (suc k, omega arith, get_or_default ts k (get_or ts k e) e below)) (subst (λ (m : ℕ). Climbs level m (ts ++ all_spots ps)) higher climbs.1)

-- ---- the sections of a segment are such

line_of_sections : (marks : List Mark) (sections : List (List Spot)) → AreSections marks sections → IsLine marks (all_spots sections)
line_of_sections marks sections are = record { complete = are.complete; ordered = are.ordered }

apart_sections : (marks : List Mark) → AreMarks marks → (sections : List (List Spot)) → AreSections marks sections → AreApart (section_index marks) sections
apart_sections marks allowed sections are = record {
  filled = are.filled;
  same = λ i d within s t here there.
      shared_level marks allowed s t (on i d within s here) (on i d within t there) ((are.joined s t (on i d within s here) (on i d within t there)).0 (get_or sections i d, Contains-get_or sections i d within, here, there));
  other = λ i j d less within s t here there alike.
      different i j d less within s t here there ((are.joined s t (on i d (omega arith) s here) (on j d within t there)).1 (level_shared marks s t alike));
}
  where
    on : (i : ℕ) (d : List Spot) → i < length sections → (s : Spot) → Contains (get_or sections i d) s → IsOn marks s
    on i d within s here = (are.complete s).0 (in_all sections i d s within here)

    different : (i j : ℕ) (d : List Spot) → i < j → j < length sections → (s t : Spot) → Contains (get_or sections i d) s → Contains (get_or sections j d) t → StandTogether sections s t → ⊥
    different i j d less within s t here there together =
        let at : get_or sections together.1.0 d ≡ together.0 = get_or_default sections together.1.0 d together.0 together.1.1 ∙ together.1.2 in
        let first : i ≡ together.1.0 = one_section marks sections are.ordered i together.1.0 d (omega arith) together.1.1 s here (subst (λ (x : List Spot). Contains x s) (sym at) together.2) in
        let second : j ≡ together.1.0 = one_section marks sections are.ordered j together.1.0 d within together.1.1 t there (subst (λ (x : List Spot). Contains x t) (sym at) together.3) in
        omega arith

levels_of : (marks : List Mark) (sections : List (List Spot)) → AreApart (section_index marks) sections → Rises (section_index marks) (all_spots sections) → AreLevels (section_index marks) sections
levels_of marks [] apart rises i d within = absurd (omega arith)
levels_of marks ([] ∷ ps) apart rises i d within = absurd (let some : 0 < 0 = apart.filled 0 [] (omega arith) in omega arith)
levels_of marks ((r ∷ rs) ∷ ps) apart rises i d within = λ k e below.
    let is : section_index marks (get_or (get_or ((r ∷ rs) ∷ ps) i d) k e) ≡ 0 + i = levels_from (section_index marks) 0 (r ∷ rs) ps apart first past i d within (get_or (get_or ((r ∷ rs) ∷ ps) i d) k e) (Contains-get_or (get_or ((r ∷ rs) ∷ ps) i d) k e below) in
    omega arith
  where
    first : (s : Spot) → Contains (r ∷ rs) s → section_index marks s ≡ 0
    first s here = apart.same 0 [] (omega arith) s r here (contains_first r rs) ∙ (rises.first r (omega arith)).0

    past : Climbs (section_index marks) 0 (all_spots ps)
    past = climbs_past (section_index marks) 0 (r ∷ rs) (all_spots ps) (λ k e below. first (get_or (r ∷ rs) k e) (Contains-get_or (r ∷ rs) k e below))
        (climbs_from (section_index marks) 0 ((r ∷ rs) ++ all_spots ps) (λ e some. inl (rises.first e some).0) rises.next)

pub levels_of_sections : (marks : List Mark) → AreMarks marks → (sections : List (List Spot)) → AreSections marks sections → AreLevels (section_index marks) sections
levels_of_sections marks allowed sections are = levels_of marks sections (apart_sections marks allowed sections are) (rising marks allowed (all_spots sections) (line_of_sections marks sections are))

pub stands_there : (marks : List Mark) (sections : List (List Spot)) (s : Spot) → AreMarks marks → AreSections marks sections → IsOn marks s → Contains (get_or sections (section_index marks s) []) s
stands_there marks sections s allowed are on = (stands_at_level (section_index marks) sections (levels_of_sections marks allowed sections are) s ((are.complete s).1 on)).1
