-- The spots of marks, placed and sorted.
use Rattle.std.proofs.Common.{◌≡◌, ℕ, suc, ◌+◌, ◌*◌, ◌<◌, ◌≤◌, ◌⊎◌, inl, inr, ◌==◌, ◌&&◌, List, [], ◌∷◌, ◌++◌, length, get_or, Contains, cond, Bool, true, false, refl, sym, ap, ◌∙◌, subst, arith}
use Rattle.std.specs.List.{All, AllPairs, IsDistinct, flat_map}
use Rattle.std.specs.List.Sorted.{IsPermutation, IsSortedBy}
use Rattle.std.specs.Cmp.{IsStrictWeakOrder, IsTotalOrder}
use Rattle.std.specs.Ordering.{nat_cmp, ordering_then, is_lt, on, then_cmp}
use Rattle.std.specs.declared.cmp.Ordering.{Ordering}
use Rattle.std.proofs.lemmas.Bool.Decides.{nat_tests}
use Rattle.std.proofs.lemmas.List.{length-map, get_or-map}
use Rattle.std.proofs.lemmas.List.Elements.{All-nil, All-cons, All-contains, All-map, recursion_from_All, Contains-append_right}
use Rattle.std.proofs.lemmas.List.Sorted.{All-permutation, Contains-permutation, sorted_far, ranks_by}
use Rattle.std.proofs.lemmas.Cmp.{nat_cmp_total, on_total, then_total}
use Rattle.std.proofs.lemmas.Map.Keys.{IsDistinct-cons, IsDistinct-IsPermutation, apart_from_distinct}
use Rattle.plain_laws.proofs.Each.{all_flat_map}
use Rattle.plain_laws.proofs.Members.{contains_flat_map, contains_map}
use Rattle.cim_words.specs.Limits.{most_length}
use Rattle.cim_words.specs.declared.identifier.Id.{Id}
use Rattle.segment_cuts.specs.declared.mark.Mark.{Mark}
use Rattle.segment_cuts.specs.declared.mark.Spot.{Spot}
use Rattle.segment_cuts.specs.declared.mark.Spot.TheVariants.{EndOne, EndTwo, Clamp, CutOne, CutTwo}
use Rattle.segment_cuts.specs.declared.line.Placed.{Placed}
use Rattle.segment_cuts.specs.Sections.{AreMarks, IsOn, Precedes, length_of, number, identifier}
use Rattle.segment_cuts.specs.Line.{IsLine, spots, placed_at, placed_of}
use Rattle.segment_cuts.proofs.MarkLists.{length_is, length_within}

-- ---- lists made of parts

one_item : {X : Type 0} (P : X → Type 0) (a : X) → P a → All P (a ∷ [])
one_item P a here = All-cons P a [] here (All-nil P)

two_items : {X : Type 0} (P : X → Type 0) (a b : X) → P a → P b → All P (a ∷ b ∷ [])
two_items P a b here there = All-cons P a (b ∷ []) here (one_item P b there)

-- ---- what is placed

abbrev pub placed_end : ℕ → Spot → Placed
placed_end n spot = record { number = n; id = record { number = 0 }; spot = spot }

-- all spots of a segment, placed
abbrev pub placed_all : List Mark → List Placed
placed_all marks = placed_end 0 EndOne ∷ placed_end 3000000000004 EndTwo ∷ flat_map placed_of marks

record IsPlaced (marks : List Mark) (p : Placed) : Type 0 where
  on : IsOn marks p.spot
  number_is : p.number ≡ number marks p.spot
  identifier_is : p.id.number ≡ identifier p.spot

placed_mark : (marks : List Mark) → AreMarks marks → (m : Mark) → Contains marks m → (b : Bool) → m.divides ≡ b → All (IsPlaced marks) (cond b (placed_at m 1 (CutOne m.id) ∷ placed_at m 3 (CutTwo m.id) ∷ []) (placed_at m 2 (Clamp m.id) ∷ []))
placed_mark marks are m here true is =
    let there : length_of marks m.id ≡ m.length.mm = length_is marks are m here in
    two_items (IsPlaced marks) (placed_at m 1 (CutOne m.id)) (placed_at m 3 (CutTwo m.id))
    (record { on = (m, here, refl, is); number_is = omega arith; identifier_is = refl }) (record { on = (m, here, refl, is); number_is = omega arith; identifier_is = refl })
placed_mark marks are m here false is =
    let there : length_of marks m.id ≡ m.length.mm = length_is marks are m here in
    one_item (IsPlaced marks) (placed_at m 2 (Clamp m.id)) (record { on = (m, here, refl, is); number_is = omega arith; identifier_is = refl })

all_placed : (marks : List Mark) → AreMarks marks → All (IsPlaced marks) (placed_all marks)
all_placed marks are =
    All-cons (IsPlaced marks) (placed_end 0 EndOne) (placed_end 3000000000004 EndTwo ∷ flat_map placed_of marks) (record { on = tt; number_is = refl; identifier_is = refl })
    (All-cons (IsPlaced marks) (placed_end 3000000000004 EndTwo) (flat_map placed_of marks) (record { on = tt; number_is = refl; identifier_is = refl })
    (all_flat_map (IsPlaced marks) placed_of marks (λ m here. placed_mark marks are m here m.divides refl)))

-- ---- every spot is placed

of_mark : (marks : List Mark) (m : Mark) → Contains marks m → (p : Placed) → Contains (placed_of m) p → Contains (placed_all marks) p
of_mark marks m here p inside = Contains-append_right (placed_end 0 EndOne ∷ placed_end 3000000000004 EndTwo ∷ []) (flat_map placed_of marks) p (contains_flat_map placed_of marks m p here inside)

sides : (m : Mark) → m.divides ≡ true → placed_of m ≡ placed_at m 1 (CutOne m.id) ∷ placed_at m 3 (CutTwo m.id) ∷ []
sides m is = ap (λ (b : Bool). cond b (placed_at m 1 (CutOne m.id) ∷ placed_at m 3 (CutTwo m.id) ∷ []) (placed_at m 2 (Clamp m.id) ∷ [])) is

middle : (m : Mark) → m.divides ≡ false → placed_of m ≡ placed_at m 2 (Clamp m.id) ∷ []
middle m is = ap (λ (b : Bool). cond b (placed_at m 1 (CutOne m.id) ∷ placed_at m 3 (CutTwo m.id) ∷ []) (placed_at m 2 (Clamp m.id) ∷ [])) is

each_there : (marks : List Mark) (s : Spot) → IsOn marks s → (p : Placed) × Contains (placed_all marks) p × (p.spot ≡ s)
each_there marks EndOne on = (placed_end 0 EndOne, (0, omega arith, refl), refl)
each_there marks EndTwo on = (placed_end 3000000000004 EndTwo, (1, omega arith, refl), refl)
each_there marks (Clamp id) on =
    let p : Placed = placed_at on.0 2 (Clamp on.0.id) in
    (p, of_mark marks on.0 on.1 p (subst (λ (x : List Placed). Contains x p) (sym (middle on.0 on.3)) (0, omega arith, refl)), ap Clamp on.2)
each_there marks (CutOne id) on =
    let p : Placed = placed_at on.0 1 (CutOne on.0.id) in
    (p, of_mark marks on.0 on.1 p (subst (λ (x : List Placed). Contains x p) (sym (sides on.0 on.3)) (0, omega arith, refl)), ap CutOne on.2)
each_there marks (CutTwo id) on =
    let p : Placed = placed_at on.0 3 (CutTwo on.0.id) in
    (p, of_mark marks on.0 on.1 p (subst (λ (x : List Placed). Contains x p) (sym (sides on.0 on.3)) (1, omega arith, refl)), ap CutTwo on.2)

-- ---- no two are placed alike

abbrev placed_alike : Placed → Placed → Bool
placed_alike p q = p.number == q.number && p.id.number == q.id.number

alike_flips : (p q : Placed) → placed_alike p q ≡ placed_alike q p
alike_flips p q = flips p.number q.number p.id.number q.id.number
  where
    flips : (a b c d : ℕ) → (a == b && c == d) ≡ (b == a && d == c)
    flips a b c d = grind (arith, nat_tests)

other_numbers : (a b c d : ℕ) → (a ≡ b → ⊥) → (a == b && c == d) ≡ false
other_numbers a b c d other = grind (arith, nat_tests)

other_ids : (a b c d : ℕ) → (c ≡ d → ⊥) → (a == b && c == d) ≡ false
other_ids a b c d other = grind (arith, nat_tests)

-- the spots of other marks have other identifiers
abbrev HasOtherId : Mark → Placed → Type 0
HasOtherId m p = m.id.number ≡ p.id.number → ⊥

other_mark : (m n : Mark) → (m.id.number ≡ n.id.number → ⊥) → (b : Bool) → All (HasOtherId m) (cond b (placed_at n 1 (CutOne n.id) ∷ placed_at n 3 (CutTwo n.id) ∷ []) (placed_at n 2 (Clamp n.id) ∷ []))
other_mark m n other true = two_items (HasOtherId m) (placed_at n 1 (CutOne n.id)) (placed_at n 3 (CutTwo n.id)) other other
other_mark m n other false = one_item (HasOtherId m) (placed_at n 2 (Clamp n.id)) other

apart_mark : (m : Mark) (rest : List Placed) → All (HasOtherId m) rest → IsDistinct placed_alike rest → (b : Bool) → IsDistinct placed_alike (cond b (placed_at m 1 (CutOne m.id) ∷ placed_at m 3 (CutTwo m.id) ∷ []) (placed_at m 2 (Clamp m.id) ∷ []) ++ rest)
apart_mark m rest others distinct true =
    IsDistinct-cons placed_alike (placed_at m 1 (CutOne m.id)) (placed_at m 3 (CutTwo m.id) ∷ rest)
    (recursion_from_All (λ q. placed_alike (placed_at m 1 (CutOne m.id)) q ≡ false) (placed_at m 3 (CutTwo m.id) ∷ rest) (All-cons (λ q. placed_alike (placed_at m 1 (CutOne m.id)) q ≡ false) (placed_at m 3 (CutTwo m.id)) rest
    (other_numbers (3 * m.length.mm + 1) (3 * m.length.mm + 3) m.id.number m.id.number (λ h. omega arith)) (λ k d below. other_ids (3 * m.length.mm + 1) (get_or rest k d).number m.id.number (get_or rest k d).id.number (others k d below))))
    (IsDistinct-cons placed_alike (placed_at m 3 (CutTwo m.id)) rest (recursion_from_All (λ q. placed_alike (placed_at m 3 (CutTwo m.id)) q ≡ false) rest (λ k d below. other_ids (3 * m.length.mm + 3) (get_or rest k d).number m.id.number (get_or rest k d).id.number (others k d below))) distinct)
apart_mark m rest others distinct false =
    IsDistinct-cons placed_alike (placed_at m 2 (Clamp m.id)) rest (recursion_from_All (λ q. placed_alike (placed_at m 2 (Clamp m.id)) q ≡ false) rest (λ k d below. other_ids (3 * m.length.mm + 2) (get_or rest k d).number m.id.number (get_or rest k d).id.number (others k d below))) distinct

apart_marks : (ms : List Mark) → AllPairs (λ (m n : Mark). ¬ (m.id ≡ n.id)) ms → IsDistinct placed_alike (flat_map placed_of ms)
unfolding IsDistinct
apart_marks [] different = tt
apart_marks (m ∷ ms) different =
    apart_mark m (flat_map placed_of ms) (all_flat_map (HasOtherId m) placed_of ms (λ n here. other_mark m n (λ same. different 0 (suc here.0) n (omega arith) (let below : here.0 < length ms = here.1 in omega arith) (ap (λ (k : ℕ). let i : Id = record { number = k } in i) same ∙ ap (λ (x : Mark). x.id) (sym here.2))) n.divides))
    (apart_marks ms (λ i j d less below. different (suc i) (suc j) d (omega arith) (omega arith))) m.divides

abbrev IsInside : Placed → Type 0
IsInside p = (0 < p.number) × (p.number < 3000000000004)

inside_mark : (m : Mark) → m.length.mm ≤ most_length → (b : Bool) → All IsInside (cond b (placed_at m 1 (CutOne m.id) ∷ placed_at m 3 (CutTwo m.id) ∷ []) (placed_at m 2 (Clamp m.id) ∷ []))
inside_mark m within true = two_items IsInside (placed_at m 1 (CutOne m.id)) (placed_at m 3 (CutTwo m.id)) (omega arith, omega arith) (omega arith, omega arith)
inside_mark m within false = one_item IsInside (placed_at m 2 (Clamp m.id)) (omega arith, omega arith)

apart_all : (marks : List Mark) → AreMarks marks → IsDistinct placed_alike (placed_all marks)
apart_all marks are =
    IsDistinct-cons placed_alike (placed_end 0 EndOne) (placed_end 3000000000004 EndTwo ∷ flat_map placed_of marks)
    (recursion_from_All (λ q. placed_alike (placed_end 0 EndOne) q ≡ false) (placed_end 3000000000004 EndTwo ∷ flat_map placed_of marks) (All-cons (λ q. placed_alike (placed_end 0 EndOne) q ≡ false) (placed_end 3000000000004 EndTwo) (flat_map placed_of marks) refl
    (λ k d below. let at = inside k d below in other_numbers 0 (get_or (flat_map placed_of marks) k d).number 0 (get_or (flat_map placed_of marks) k d).id.number (λ h. omega arith))))
    (IsDistinct-cons placed_alike (placed_end 3000000000004 EndTwo) (flat_map placed_of marks)
    (recursion_from_All (λ q. placed_alike (placed_end 3000000000004 EndTwo) q ≡ false) (flat_map placed_of marks) (λ k d below. let at = inside k d below in other_numbers 3000000000004 (get_or (flat_map placed_of marks) k d).number 0 (get_or (flat_map placed_of marks) k d).id.number (λ h. omega arith)))
    (apart_marks marks are.different))
  where
    inside : All IsInside (flat_map placed_of marks)
    inside = all_flat_map IsInside placed_of marks (λ m here. inside_mark m (length_within marks are m here) m.divides)

-- ---- sorted, they are the line

pub sorted_line : (marks : List Mark) → AreMarks marks → (lt : Placed → Placed → Bool) → IsStrictWeakOrder lt
    → ((p q : Placed) → lt q p ≡ false → (p.number < q.number) ⊎ ((p.number ≡ q.number) × (p.id.number ≤ q.id.number)))
    → (ys : List Placed) → IsPermutation (placed_all marks) ys → IsSortedBy lt ys → IsLine marks (spots ys)
sorted_line marks are lt order keys ys moved sorted = record {
  complete = λ s. (
    (λ here. All-contains (IsOn marks) (spots ys) s (All-map (IsOn marks) (λ (p : Placed). p.spot) ys (λ k d below. (placed k d below).on)) here),
    (λ on. let there = each_there marks s on in subst (Contains (spots ys)) there.2 (contains_map (λ (p : Placed). p.spot) ys there.0 (Contains-permutation (placed_all marks) ys there.0 moved there.1))),
  );
  ordered = λ i j d less below. at i j d less (omega (arith, length-map ys (λ (p : Placed). p.spot)));
}
  where
    placed : All (IsPlaced marks) ys
    placed = All-permutation (IsPlaced marks) (placed_all marks) ys moved (all_placed marks are)

    distinct : IsDistinct placed_alike ys
    distinct = IsDistinct-IsPermutation placed_alike alike_flips (placed_all marks) ys moved (apart_all marks are)

    later : (p q : Placed) → IsPlaced marks p → IsPlaced marks q → placed_alike p q ≡ false → (p.number < q.number) ⊎ ((p.number ≡ q.number) × (p.id.number ≤ q.id.number)) → Precedes marks p.spot q.spot
    later p q first second apart (inl less) = inl (subst (λ (n : ℕ). n < number marks q.spot) first.number_is (subst (λ (n : ℕ). p.number < n) second.number_is less))
    later p q first second apart (inr tie) = inr (
      sym first.number_is ∙ tie.0 ∙ second.number_is,
      subst (λ (n : ℕ). n < identifier q.spot) first.identifier_is (subst (λ (n : ℕ). p.id.number < n) second.identifier_is (strictly p.number q.number p.id.number q.id.number apart tie)),
    )
      where
        strictly : (a b c e : ℕ) → (a == b && c == e) ≡ false → (a ≡ b) × (c ≤ e) → c < e
        strictly a b c e other both = grind (arith, nat_tests)

    at : (i j : ℕ) (d : Spot) → i < j → j < length ys → Precedes marks (get_or (spots ys) i d) (get_or (spots ys) j d)
    at i j d less below =
        let e : Placed = placed_end 0 EndOne in
        let before : i < length ys = omega arith in
        let first : get_or (spots ys) i d ≡ (get_or ys i e).spot = get_or-map (λ (p : Placed). p.spot) ys i e d before in
        let second : get_or (spots ys) j d ≡ (get_or ys j e).spot = get_or-map (λ (p : Placed). p.spot) ys j e d below in
        rw (first, second) (later (get_or ys i e) (get_or ys j e) (placed i e before) (placed j e below) (apart_from_distinct placed_alike ys i j e distinct less below)
        (keys (get_or ys i e) (get_or ys j e) (sorted_far lt order ys sorted i j e (omega arith) below)))

-- the order by number and then by identifier
abbrev pub place_order : Placed → Placed → Ordering
place_order = then_cmp (on (λ (p : Placed). p.number) nat_cmp) (on (λ (p : Placed). p.id.number) nat_cmp)

place_order_total : IsTotalOrder place_order
place_order_total = then_total (on_total (λ (p : Placed). p.number) nat_cmp_total) (on_total (λ (p : Placed). p.id.number) nat_cmp_total)

not_less : (a b c d : ℕ) → is_lt (ordering_then (nat_cmp a b) (nat_cmp c d)) ≡ false → (b < a) ⊎ ((b ≡ a) × (d ≤ c))
not_less a b c d is = grind (arith, nat_tests)

pub placed_line : (marks : List Mark) → AreMarks marks → (xs ys : List Placed) → xs ≡ placed_all marks → IsPermutation xs ys → IsSortedBy (λ (p q : Placed). is_lt (place_order p q)) ys → IsLine marks (spots ys)
placed_line marks are xs ys all moved sorted =
    sorted_line marks are (λ (p q : Placed). is_lt (place_order p q)) (ranks_by place_order_total (λ (p : Placed). p)) (λ p q is. not_less q.number p.number q.id.number p.id.number is) ys
    (subst (λ (zs : List Placed). IsPermutation zs ys) all moved) sorted
