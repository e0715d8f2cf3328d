-- Along a line of spots the number of cuts below rises by one with each side two.
use Rattle.std.proofs.Common.{◌≡◌, ℕ, ◌+◌, ◌*◌, ◌<◌, ◌≤◌, ◌⊎◌, inl, inr, List, length, get_or, Contains, true, false, cond, refl, sym, ap, ◌∙◌, subst, arith}
use Rattle.std.specs.List.{AllPairs}
use Rattle.std.proofs.lemmas.Bool.{cases_lt}
use Rattle.std.proofs.lemmas.List.{get_or_default}
use Rattle.std.proofs.lemmas.List.Elements.{Contains-get_or}
use Rattle.plain_laws.proofs.Counts.{count_alike, count_none, count_one_more}
use Rattle.plain_laws.proofs.Truth.{never_both}
use Rattle.cim_words.specs.declared.identifier.Id.{Id}
use Rattle.segment_cuts.specs.declared.mark.Mark.{Mark}
use Rattle.segment_cuts.specs.declared.mark.Spot.{Spot}
use Rattle.segment_cuts.specs.declared.mark.Spot.TheVariants.{EndOne, EndTwo, Clamp, CutOne, CutTwo}
use Rattle.segment_cuts.specs.Sections.{AreMarks, IsOn, Precedes, length_of, number, identifier, cut_number, section_index}
use Rattle.segment_cuts.specs.Line.{IsLine, Rises, begins}
use Rattle.segment_cuts.proofs.MarkLists.{length_of_mark, length_is, one_cut_there, one_index, never_at_cut}
use Rattle.segment_cuts.proofs.Levels.{lies_below, below, not_below, alike_below}

-- ---- numbers along a line

upto_from : (marks : List Mark) (s t : Spot) → Precedes marks s t → number marks s ≤ number marks t
upto_from marks s t (inl less) = omega arith
upto_from marks s t (inr tie) = omega arith

pub number_upto : (marks : List Mark) (line : List Spot) → AllPairs (Precedes marks) line → (i j : ℕ) (d : Spot) → i ≤ j → j < length line → number marks (get_or line i d) ≤ number marks (get_or line j d)
number_upto marks line ordered i j d upto within = cases (cases_lt i j)
  where
    cases : (i < j) ⊎ (j ≤ i) → number marks (get_or line i d) ≤ number marks (get_or line j d)
    cases (inl less) = upto_from marks _ _ (ordered i j d less within)
    cases (inr most) = let same : i ≡ j = omega arith in rw same (omega arith)

-- ---- spots by their numbers

begins_not : (marks : List Mark) (s : Spot) → number marks s ≤ 0 → begins s ≡ false
begins_not marks EndOne none = refl
begins_not marks EndTwo none = refl
begins_not marks (Clamp id) none = refl
begins_not marks (CutOne id) none = refl
begins_not marks (CutTwo id) none = absurd (omega arith)

begins_at : (marks : List Mark) (n : ℕ) (s : Spot) → number marks s ≡ 3 * n + 3 → begins s ≡ true
begins_at marks n EndOne is = absurd (omega arith)
begins_at marks n EndTwo is = absurd (omega arith)
begins_at marks n (Clamp id) is = absurd (omega arith)
begins_at marks n (CutOne id) is = absurd (omega arith)
begins_at marks n (CutTwo id) is = refl

one_second_side : (marks : List Mark) → AreMarks marks → (m : Mark) → Contains marks m → m.divides ≡ true → (s : Spot) → IsOn marks s → number marks s ≡ 3 * m.length.mm + 3 → identifier s ≡ m.id.number
one_second_side marks are m here cut EndOne on is = absurd (omega arith)
one_second_side marks are m here cut EndTwo on is = absurd (omega arith)
one_second_side marks are m here cut (Clamp id) on is = absurd (omega arith)
one_second_side marks are m here cut (CutOne id) on is = absurd (omega arith)
one_second_side marks are m here cut (CutTwo id) on is =
    let there : length_of marks id ≡ on.0.length.mm = length_of_mark marks are id on.0 on.1 on.2 in
    let same : m ≡ on.0 = one_cut_there marks are m on.0 here on.1 cut (omega arith) in
    ap (λ (i : Id). i.number) (sym on.2) ∙ ap (λ (n : Mark). n.id.number) (sym same)

-- ---- two spots that are neighbors on a line

record Neighbors (marks : List Mark) (s t : Spot) : Type 0 where
  first : IsOn marks s
  second : IsOn marks t
  precedes : Precedes marks s t
  nothing_between : (u : Spot) → IsOn marks u → (number marks u ≤ number marks s) ⊎ ((u ≡ t) ⊎ Precedes marks t u)

neighbors : (marks : List Mark) (line : List Spot) → IsLine marks line → (i : ℕ) (d : Spot) → i + 1 < length line → Neighbors marks (get_or line i d) (get_or line (i + 1) d)
neighbors marks line is i d within = record {
  first = (is.complete (get_or line i d)).0 (Contains-get_or line i d (omega arith));
  second = (is.complete (get_or line (i + 1) d)).0 (Contains-get_or line (i + 1) d within);
  precedes = is.ordered i (i + 1) d (omega arith) within;
  nothing_between = λ u on. at u ((is.complete u).1 on);
}
  where
    at : (u : Spot) → Contains line u → (number marks u ≤ number marks (get_or line i d)) ⊎ ((u ≡ get_or line (i + 1) d) ⊎ Precedes marks (get_or line (i + 1) d) u)
    at u here = cases (cases_lt here.0 (i + 1)) (cases_lt (i + 1) here.0)
      where
        there : get_or line here.0 d ≡ u
        there = get_or_default line here.0 d u here.1 ∙ here.2

        cases : (here.0 < i + 1) ⊎ (i + 1 ≤ here.0) → (i + 1 < here.0) ⊎ (here.0 ≤ i + 1) → (number marks u ≤ number marks (get_or line i d)) ⊎ ((u ≡ get_or line (i + 1) d) ⊎ Precedes marks (get_or line (i + 1) d) u)
        cases (inl less) _ = inl (subst (λ (v : Spot). number marks v ≤ number marks (get_or line i d)) there (number_upto marks line is.ordered here.0 i d (omega arith) (omega arith)))
        cases _ (inl more) = inr (inr (subst (λ (v : Spot). Precedes marks (get_or line (i + 1) d) v) there (is.ordered (i + 1) here.0 d more here.1)))
        cases (inr upto) (inr downto) = let same : here.0 ≡ i + 1 = omega arith in inr (inl (sym there ∙ ap (λ (k : ℕ). get_or line k d) same))

-- ---- a neighbor that begins no section has the same cuts below

stays : (marks : List Mark) → AreMarks marks → (s t : Spot) → Neighbors marks s t → begins t ≡ false → section_index marks s ≡ section_index marks t
stays marks are s t next within = count_alike (lies_below (number marks s)) (lies_below (number marks t)) marks (λ k d inside.
    alike_below (number marks s) (number marks t) (cut_number (get_or marks k d)) (get_or marks k d).divides (λ cut.
    let here : Contains marks (get_or marks k d) = Contains-get_or marks k d inside in
    ((λ less. let upto : number marks s ≤ number marks t = upto_from marks s t next.precedes in omega arith), passed (get_or marks k d) here cut (never_at_cut marks are (get_or marks k d) here cut s next.first))))
  where
    side : (m : Mark) → Contains marks m → number marks (CutTwo m.id) ≡ 3 * m.length.mm + 3
    side m here = let there : length_of marks m.id ≡ m.length.mm = length_is marks are m here in omega arith

    passed : (m : Mark) → Contains marks m → m.divides ≡ true → (number marks s < cut_number m) ⊎ (cut_number m < number marks s) → cut_number m < number marks t → cut_number m < number marks s
    passed m here cut (inr more) less = more
    passed m here cut (inl more) less = absurd (cases (next.nothing_between (CutTwo m.id) (m, here, refl, cut)))
      where
        number_is : number marks (CutTwo m.id) ≡ 3 * m.length.mm + 3
        number_is = side m here

        cases : (number marks (CutTwo m.id) ≤ number marks s) ⊎ ((CutTwo m.id ≡ t) ⊎ Precedes marks t (CutTwo m.id)) → ⊥
        cases (inl upto) = omega (arith, number_is)
        cases (inr (inl same)) = never_both (begins t) (ap begins (sym same)) within
        cases (inr (inr (inl before))) = omega (arith, number_is)
        cases (inr (inr (inr tie))) = never_both (begins t) (begins_at marks m.length.mm t (tie.0 ∙ number_is)) within

-- ---- side two of a cut has one cut more below than the spot before it

climbs : (marks : List Mark) → AreMarks marks → (s : Spot) (id : Id) → Neighbors marks s (CutTwo id) → section_index marks (CutTwo id) ≡ section_index marks s + 1
climbs marks are s id next =
    count_one_more (lies_below (number marks s)) (lies_below (number marks (CutTwo id))) marks here.0 here.1
    (λ d. ap (lies_below (number marks s)) (at d) ∙ not_below (number marks s) (cut_number m) m.divides (omega (arith, length_there, side_one)))
    (λ d. ap (lies_below (number marks (CutTwo id))) (at d) ∙ below (number marks (CutTwo id)) (cut_number m) m.divides cut (omega (arith, length_there, side_one)))
    (λ j d inside other. alike_below (number marks s) (number marks (CutTwo id)) (cut_number (get_or marks j d)) (get_or marks j d).divides (λ is. ((λ less. omega (arith, length_there, side_one)), lower j d inside other is)))
  where
    m : Mark
    m = next.second.0

    here : Contains marks m
    here = next.second.1

    cut : m.divides ≡ true
    cut = next.second.3

    at : (d : Mark) → get_or marks here.0 d ≡ m
    at d = get_or_default marks here.0 d m here.1 ∙ here.2

    length_there : length_of marks id ≡ m.length.mm
    length_there = length_of_mark marks are id m here next.second.2

    side_one : number marks s ≡ 3 * m.length.mm + 1
    side_one = cases (next.nothing_between (CutOne id) next.second) (never_at_cut marks are m here cut s next.first) next.precedes
      where
        cases : (number marks (CutOne id) ≤ number marks s) ⊎ ((CutOne id ≡ CutTwo id) ⊎ Precedes marks (CutTwo id) (CutOne id)) → (number marks s < cut_number m) ⊎ (cut_number m < number marks s) → Precedes marks s (CutTwo id) → number marks s ≡ 3 * m.length.mm + 1
        cases (inl upto) (inl less) _ = omega (arith, length_there)
        cases (inl upto) (inr more) (inl before) = absurd (omega (arith, length_there))
        cases (inl upto) (inr more) (inr tie) =
            let same : identifier s ≡ m.id.number = one_second_side marks are m here cut s next.first (omega (arith, length_there)) in
            let own : m.id.number ≡ id.number = ap (λ (i : Id). i.number) next.second.2 in
            absurd (omega (arith, length_there))
        cases (inr (inl same)) _ _ = cc
        cases (inr (inr (inl before))) _ _ = absurd (omega (arith, length_there))
        cases (inr (inr (inr tie))) _ _ = absurd (omega (arith, length_there))

    lower : (j : ℕ) (d : Mark) → j < length marks → (j ≡ here.0 → ⊥) → (get_or marks j d).divides ≡ true → cut_number (get_or marks j d) < number marks (CutTwo id) → cut_number (get_or marks j d) < number marks s
    lower j d inside other is less = cases (cases_lt (get_or marks j d).length.mm m.length.mm)
      where
        cases : ((get_or marks j d).length.mm < m.length.mm) ⊎ (m.length.mm ≤ (get_or marks j d).length.mm) → cut_number (get_or marks j d) < number marks s
        cases (inl nearer) = omega (arith, length_there, side_one)
        cases (inr farther) =
            let same : m ≡ get_or marks j d = one_cut_there marks are m (get_or marks j d) here (Contains-get_or marks j d inside) cut (omega (arith, length_there, side_one)) in
            absurd (other (one_index marks are j here.0 d inside here.1 (sym same ∙ sym (at d))))

steps_to : (marks : List Mark) → AreMarks marks → (s t : Spot) → Neighbors marks s t → section_index marks t ≡ section_index marks s + cond (begins t) 1 0
steps_to marks are s EndOne next = let same : section_index marks s ≡ section_index marks EndOne = stays marks are s EndOne next refl in omega arith
steps_to marks are s EndTwo next = let same : section_index marks s ≡ section_index marks EndTwo = stays marks are s EndTwo next refl in omega arith
steps_to marks are s (Clamp id) next = let same : section_index marks s ≡ section_index marks (Clamp id) = stays marks are s (Clamp id) next refl in omega arith
steps_to marks are s (CutOne id) next = let same : section_index marks s ≡ section_index marks (CutOne id) = stays marks are s (CutOne id) next refl in omega arith
steps_to marks are s (CutTwo id) next = climbs marks are s id next

-- ---- a line rises

begins_low : (marks : List Mark) (line : List Spot) → IsLine marks line → (d : Spot) → number marks (get_or line 0 d) ≤ 0
begins_low marks line is d =
    let here : Contains line EndOne = (is.complete EndOne).1 tt in
    subst (λ (v : Spot). number marks (get_or line 0 d) ≤ number marks v) (get_or_default line here.0 d EndOne here.1 ∙ here.2) (number_upto marks line is.ordered 0 here.0 d (omega arith) here.1)

pub rising : (marks : List Mark) → AreMarks marks → (line : List Spot) → IsLine marks line → Rises (section_index marks) line
rising marks are line is = record {
  first = λ d filled. (
    count_none (lies_below (number marks (get_or line 0 d))) marks (λ k e within. not_below (number marks (get_or line 0 d)) (cut_number (get_or marks k e)) (get_or marks k e).divides (low d k e)),
    begins_not marks (get_or line 0 d) (begins_low marks line is d),
  );
  next = λ i d within. steps_to marks are (get_or line i d) (get_or line (i + 1) d) (neighbors marks line is i d within);
}
  where
    low : (d : Spot) (k : ℕ) (e : Mark) → number marks (get_or line 0 d) ≤ cut_number (get_or marks k e)
    low d k e = let none : number marks (get_or line 0 d) ≤ 0 = begins_low marks line is d in omega arith
