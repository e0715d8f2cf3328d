-- A search among places in their order.
use Rattle.std.proofs.Common.{◌≡◌, ℕ, suc, ◌+◌, ◌<◌, ◌≤◌, ◌⊎◌, inl, inr, ◌==◌, List, [], ◌∷◌, length, take, drop, get_or, Bool, true, false, not, ◌&&◌, ◌||◌, refl, sym, ap, ◌∙◌, arith}
use Rattle.std.specs.Prelude.{nat_eq, nat_lt}
use Rattle.std.specs.List.{list_any, All, AllPairs}
use Rattle.std.specs.List.Sorted.{IsStrictlySortedBy, IsPartitionedBy, IsPartitionPoint}
use Rattle.std.specs.Cmp.{IsTotalOrder}
use Rattle.std.specs.Ordering.{nat_cmp, ordering_then, eq_by_cmp, eq_of_both, is_eq, on}
use Rattle.std.specs.declared.cmp.Ordering.TheVariants.{Less}
use Rattle.std.proofs.lemmas.Bool.{cases_lt}
use Rattle.std.proofs.lemmas.Bool.Decides.{nat_tests}
use Rattle.std.proofs.lemmas.Cmp.{nat_cmp_total, on_total, then_total}
use Rattle.std.proofs.lemmas.List.{take-append-drop, get_or-take, get_or-drop, length-take, length-drop}
use Rattle.std.proofs.lemmas.List.Folds.{list_any-append, list_any_none}
use Rattle.std.proofs.lemmas.Map.Keys.{Less-from_sorted}
use Rattle.cim_profile.specs.Places.{is_at, is_before, is_other, place_order}
use Rattle.cim_profile.specs.declared.marks.Place.{Place}

pub place_order_total : IsTotalOrder place_order
place_order_total = then_total (on_total (λ (p : Place). p.segment.number) nat_cmp_total) (then_total (on_total (λ (p : Place). p.length.mm) nat_cmp_total) (on_total (λ (p : Place). p.mark.number) nat_cmp_total))

-- a place that stands before a later one, by its three numbers
less_is : (a b c d e f : ℕ) → ordering_then (nat_cmp a d) (ordering_then (nat_cmp b e) (nat_cmp c f)) ≡ Less → (a < d) ⊎ ((a ≡ d) × ((b < e) ⊎ ((b ≡ e) × (c < f))))
less_is a b c d e f h = grind (arith, nat_tests)

-- what stands before what stands before a length along a segment
earlier : (s n a b c d e f : ℕ) → (a < d) ⊎ ((a ≡ d) × ((b < e) ⊎ ((b ≡ e) × (c < f)))) → (nat_lt d s || d == s && nat_lt e n) ≡ true → (nat_lt a s || a == s && nat_lt b n) ≡ true
earlier s n a b c d e f h before = grind (arith, nat_tests)

pub before_passes : (s n : ℕ) (p q : Place) → place_order p q ≡ Less → is_before s n q ≡ true → is_before s n p ≡ true
before_passes s n p q less before = earlier s n p.segment.number p.length.mm p.mark.number q.segment.number q.length.mm q.mark.number (less_is _ _ _ _ _ _ less) before

-- a place before a length along a segment is not there
not_there : (s n x a b c : ℕ) → (nat_lt a s || a == s && nat_lt b n) ≡ true → (a == s && (not (c == x) && nat_eq n b)) ≡ false
not_there s n x a b c before = grind (arith, nat_tests)

-- a place from there on that has no other mark, and a later one that has
at_it : (s n x a b c : ℕ) → (nat_lt a s || a == s && nat_lt b n) ≡ false → (a == s && (not (c == x) && nat_eq n b)) ≡ false → (s < a) ⊎ ((a ≡ s) × ((n < b) ⊎ ((b ≡ n) × (c ≡ x))))
at_it s n x a b c before other = grind (arith, nat_tests)

found_at : (s n x a b c : ℕ) → (a == s && (not (c == x) && nat_eq n b)) ≡ true → (a ≡ s) × (b ≡ n)
found_at s n x a b c is = grind (arith, nat_tests)

-- of three places in order the last has no other mark where the first two have none
no_third : (s n x a b c d e f g h k : ℕ) → (a < d) ⊎ ((a ≡ d) × ((b < e) ⊎ ((b ≡ e) × (c < f)))) → (d < g) ⊎ ((d ≡ g) × ((e < h) ⊎ ((e ≡ h) × (f < k))))
    → (s < a) ⊎ ((a ≡ s) × ((n < b) ⊎ ((b ≡ n) × (c ≡ x)))) → (s < d) ⊎ ((d ≡ s) × ((n < e) ⊎ ((e ≡ n) × (f ≡ x)))) → (g ≡ s) × (h ≡ n) → ⊥
no_third s n x a b c d e f g h k first second here next last = grind arith

third : (s n x : ℕ) (p q z : Place) → place_order p q ≡ Less → place_order q z ≡ Less → is_before s n p ≡ false → is_before s n q ≡ false
    → is_at s (is_other n x) p ≡ false → is_at s (is_other n x) q ≡ false → (b : Bool) → is_at s (is_other n x) z ≡ b → b ≡ false
third s n x p q z first second here next other another false is = refl
third s n x p q z first second here next other another true is = absurd (no_third s n x p.segment.number p.length.mm p.mark.number q.segment.number q.length.mm q.mark.number z.segment.number z.length.mm z.mark.number
    (less_is _ _ _ _ _ _ first) (less_is _ _ _ _ _ _ second)
    (at_it s n x p.segment.number p.length.mm p.mark.number here other) (at_it s n x q.segment.number q.length.mm q.mark.number next another) (found_at s n x z.segment.number z.length.mm z.mark.number is))

-- so the first two tell of all from there on
first_two : (s n x : ℕ) (rest : List Place) → AllPairs (λ p q. place_order p q ≡ Less) rest → All (λ p. is_before s n p ≡ false) rest
    → list_any (is_at s (is_other n x)) (take 2 rest) ≡ list_any (is_at s (is_other n x)) rest
first_two s n x [] pairs past = refl
first_two s n x (p ∷ []) pairs past = refl
first_two s n x (p ∷ q ∷ more) pairs past = cases (is_at s (is_other n x) p) refl (is_at s (is_other n x) q) refl
  where
    none : is_at s (is_other n x) p ≡ false → is_at s (is_other n x) q ≡ false → list_any (is_at s (is_other n x)) more ≡ false
    none other another = list_any_none (is_at s (is_other n x)) more (λ k d below.
        third s n x p q (get_or more k d) (pairs 0 1 d (omega arith) (omega arith)) (pairs 1 (suc (suc k)) d (omega arith) (omega arith)) (past 0 d (omega arith)) (past 1 d (omega arith)) other another _ refl)

    cases : (a : Bool) → is_at s (is_other n x) p ≡ a → (b : Bool) → is_at s (is_other n x) q ≡ b → (a || (b || false)) ≡ (a || (b || list_any (is_at s (is_other n x)) more))
    cases true e b f = refl
    cases false e true f = refl
    cases false e false f = sym (none e f)

less_before : (places : List Place) → IsStrictlySortedBy place_order places → (i : ℕ) → AllPairs (λ p q. place_order p q ≡ Less) (drop i places)
less_before places sorted i j k d before within =
    let inside : i + k < length places = omega (arith, length-drop i places) in
    let less : i + j < i + k = omega arith in
    rw (get_or-drop i places j d, get_or-drop i places k d) (Less-from_sorted place_order places (i + j) (i + k) d sorted less inside)

at_or_before : (s n : ℕ) (places : List Place) → IsStrictlySortedBy place_order places → (i j : ℕ) (d : Place) → i ≤ j → j < length places → is_before s n (get_or places j d) ≡ true → (i < j) ⊎ (j ≤ i) → is_before s n (get_or places i d) ≡ true
at_or_before s n places sorted i j d upto below before (inl less) = before_passes s n (get_or places i d) (get_or places j d) (Less-from_sorted place_order places i j d sorted less below) before
at_or_before s n places sorted i j d upto below before (inr most) = let same : i ≡ j = omega arith in rw same before

-- what stands before a length along a segment stands at the front
pub before_in_front : (s n : ℕ) (places : List Place) → IsStrictlySortedBy place_order places → IsPartitionedBy (is_before s n) places
before_in_front s n places sorted i j d upto below before = at_or_before s n places sorted i j d upto below before (cases_lt i j)

-- a search for another mark at a length along a segment, among the first two places from there on
pub found_by_two : (s n x : ℕ) (places rest : List Place) (i : ℕ) → rest ≡ drop i places → i ≤ length places → IsStrictlySortedBy place_order places
    → IsPartitionPoint (λ p. is_before s n p ≡ true) (λ p. is_before s n p ≡ false) places i
    → list_any (is_at s (is_other n x)) (take 2 rest) ≡ list_any (is_at s (is_other n x)) places
found_by_two s n x places rest i is within sorted parts =
    rw is (
    first_two s n x (drop i places) (less_before places sorted i) after
    ∙ ap (λ (b : Bool). b || list_any (is_at s (is_other n x)) (drop i places)) (sym (list_any_none (is_at s (is_other n x)) (take i places) front))
    ∙ sym (list_any-append (is_at s (is_other n x)) (take i places) (drop i places))
    ∙ ap (list_any (is_at s (is_other n x))) (take-append-drop i places)
    )
  where
    after : All (λ p. is_before s n p ≡ false) (drop i places)
    after k d below =
        let inside : i + k < length places = omega (arith, length-drop i places) in
        rw (get_or-drop i places k d) (parts.1 (i + k) d (omega arith) inside)

    front : All (λ p. is_at s (is_other n x) p ≡ false) (take i places)
    front k d below =
        let less : k < i = omega (arith, length-take i places) in
        rw (get_or-take i places k d) (not_there s n x _ _ _ (parts.0 k d (omega arith) less))

-- ---- places that tie are one

abbrev pub same_place : Place → Place → Bool
same_place = eq_of_both (on (λ (p : Place). p.segment.number) nat_eq) (eq_of_both (on (λ (p : Place). p.length.mm) nat_eq) (on (λ (p : Place). p.mark.number) nat_eq))

ties : (a b c d e f : ℕ) → (nat_eq a d && (nat_eq b e && nat_eq c f)) ≡ is_eq (ordering_then (nat_cmp a d) (ordering_then (nat_cmp b e) (nat_cmp c f)))
ties a b c d e f = grind (arith, nat_tests)

pub places_tie : (p q : Place) → same_place p q ≡ eq_by_cmp place_order p q
places_tie p q = ties p.segment.number p.length.mm p.mark.number q.segment.number q.length.mm q.mark.number

three_same : (a b c d e f : ℕ) → (nat_eq a d && (nat_eq b e && nat_eq c f)) ≡ true → (a ≡ d) × (b ≡ e) × (c ≡ f)
three_same a b c d e f h = grind (arith, nat_tests)

pub places_same : (p q : Place) → same_place p q ≡ true → p ≡ q
places_same p q h =
    let made : ℕ → ℕ → ℕ → Place = λ a b c. record { segment = record { number = a }; length = record { mm = b }; mark = record { number = c } } in
    let same = three_same p.segment.number p.length.mm p.mark.number q.segment.number q.length.mm q.mark.number h in
    ap (λ (a : ℕ). made a p.length.mm p.mark.number) same.0 ∙ ap (λ (b : ℕ). made q.segment.number b p.mark.number) same.1 ∙ ap (made q.segment.number q.length.mm) same.2

-- no places are in order
pub none_in_order : IsStrictlySortedBy place_order []
unfolding IsStrictlySortedBy
none_in_order = tt
