-- The part of a list in ascending order of a key that has one key.
use Rattle.std.proofs.Common.{◌≡◌, ℕ, ◌+◌, ◌<◌, ◌≤◌, ◌==◌, List, ◌++◌, length, take, drop, get_or, ltb, leb, true, false, sym, ap, subst, ◌∙◌, arith, Bool, not, ◌&&◌, refl}
use Rattle.std.specs.List.{All, filter, list_any}
use Rattle.std.specs.List.Sorted.{IsPartitionPoint, IsPermutation, IsStableByKey, ties}
use Rattle.std.proofs.lemmas.List.{take-append-drop, get_or-take, get_or-drop, length-take, length-drop}
use Rattle.std.specs.Ordering.{is_lt, nat_cmp}
use Rattle.std.proofs.lemmas.Bool.Decides.{nat_tests}
use Rattle.std.proofs.lemmas.List.Elements.{filter_agree}
use Rattle.std.proofs.lemmas.List.Sorted.{list_any-IsPermutation}
use Rattle.plain_laws.proofs.Filters.{filter_middle, filter_none}
use Rattle.plain_laws.proofs.Numbers.{other_above, other_below, same_between}
use Rattle.plain_laws.proofs.Tests.{any_among}

-- what stands from where the keys are no longer below to where they are above
part_from : {X : Type 0} (key : X → ℕ) (xs : List X) (n i j : ℕ) → i ≤ length xs → j ≤ length (drop i xs)
    → IsPartitionPoint (λ x. ltb (key x) n ≡ true) (λ x. ltb (key x) n ≡ false) xs i
    → IsPartitionPoint (λ x. leb (key x) n ≡ true) (λ x. leb (key x) n ≡ false) (drop i xs) j
    → take j (drop i xs) ≡ filter (λ x. key x == n) xs
part_from {X} key xs n i j first second before within = sym (
    ap (filter (λ x. key x == n)) (sym (ap (λ (rest : List X). take i xs ++ rest) (take-append-drop j (drop i xs)) ∙ take-append-drop i xs))
    ∙ filter_middle (λ x. key x == n) (take i xs) (take j (drop i xs)) (drop j (drop i xs)) low here high
    )
  where
    low : All (λ x. (key x == n) ≡ false) (take i xs)
    low k d below =
        let less : k < i = omega (arith, length-take i xs) in
        rw (get_or-take i xs k d) (other_below (key (get_or xs k d)) n (before.0 k d (omega arith) (omega arith)))

    here : All (λ x. (key x == n) ≡ true) (take j (drop i xs))
    here k d below =
        let less : k < j = omega (arith, length-take j (drop i xs)) in
        let inside : i + k < length xs = omega (arith, length-take j (drop i xs), length-drop i xs) in
        rw (get_or-take j (drop i xs) k d) (same_between (key (get_or (drop i xs) k d)) n (rw (get_or-drop i xs k d) (before.1 (i + k) d (omega arith) inside)) (within.0 k d (omega arith) less))

    high : All (λ x. (key x == n) ≡ false) (drop j (drop i xs))
    high k d below =
        let inside : j + k < length (drop i xs) = omega (arith, length-drop j (drop i xs)) in
        rw (get_or-drop j (drop i xs) k d) (other_above (key (get_or (drop i xs) (j + k) d)) n (within.1 (j + k) d (omega arith) inside))

-- the same of the rest of the list by another name
pub part_of_key : {X : Type 0} (key : X → ℕ) (xs rest : List X) (n i j : ℕ) → rest ≡ drop i xs → i ≤ length xs → j ≤ length rest
    → IsPartitionPoint (λ x. ltb (key x) n ≡ true) (λ x. ltb (key x) n ≡ false) xs i
    → IsPartitionPoint (λ x. leb (key x) n ≡ true) (λ x. leb (key x) n ≡ false) rest j
    → take j rest ≡ filter (λ x. key x == n) xs
part_of_key {X} key xs rest n i j is first second before within =
    rw is (part_from key xs n i j first (subst (λ (ys : List X). j ≤ length ys) is second) before (subst (λ (ys : List X). IsPartitionPoint (λ x. leb (key x) n ≡ true) (λ x. leb (key x) n ≡ false) ys j) is within))

tied : (m n key : ℕ) → (m == key) ≡ true → (not (is_lt (nat_cmp m n)) && not (is_lt (nat_cmp n m))) ≡ (n == key)
tied m n key h = grind (arith, nat_tests)

-- a stable sort keeps it as it stands
pub part_stays : {X : Type 0} (n : X → ℕ) (xs ys : List X) → IsPermutation xs ys → IsStableByKey n nat_cmp xs ys → (key : ℕ) → filter (λ x. n x == key) ys ≡ filter (λ x. n x == key) xs
part_stays {X} n xs ys moved stable key = cases (list_any has xs) refl
  where
    has : X → Bool
    has x = n x == key

    cases : (b : Bool) → list_any has xs ≡ b → filter has ys ≡ filter has xs
    cases false none = filter_none has ys (sym (list_any-IsPermutation has xs ys moved) ∙ none) ∙ sym (filter_none has xs none)
    cases true any =
        let some = any_among has xs any in
        let x = some.0 in
        let is = some.2 in
        let alike : (y : X) → ties (λ a b. is_lt (nat_cmp (n a) (n b))) x y ≡ has y = λ y. tied (n x) (n y) key is in
        sym (filter_agree (ties (λ a b. is_lt (nat_cmp (n a) (n b))) x) has alike ys) ∙ stable x ∙ filter_agree (ties (λ a b. is_lt (nat_cmp (n a) (n b))) x) has alike xs
