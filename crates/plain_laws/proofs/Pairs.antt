-- Relations that hold of any two elements of a list, and lists whose elements differ.
use Rattle.std.proofs.Common.{◌≡◌, ◌≢◌, ◌⊎◌, ℕ, suc, ◌+◌, ◌<◌, ◌≤◌, inl, inr, List, [], ◌∷◌, ◌++◌, map, length, get_or, Bool, false, nat_eq, Contains, refl, sym, ap, ◌∙◌, subst, arith, length-append}
use Rattle.std.specs.List.{AllPairs, IsDistinct, filter}
use Rattle.std.proofs.lemmas.Bool.{cases_lt}
use Rattle.std.proofs.lemmas.Bool.Decides.{Decides-eqb}
use Rattle.std.proofs.lemmas.Cmp.{nat_eq_equiv}
use Rattle.std.proofs.lemmas.List.{get_or-append-add, get_or-map, get_or_append_left, get_or_default, length-map}
use Rattle.std.proofs.lemmas.List.Kept.{AllPairs-cons, AllPairs-filter}
use Rattle.std.proofs.lemmas.Map.Keys.{IsDistinct-from_apart, apart_from_distinct}
use Rattle.std.proofs.lemmas.Map.Made.{AllPairs-from_IsDistinct, IsDistinct-from_AllPairs, length-le_from_is_member}
use Rattle.std.proofs.lemmas.List.Elements.{All-append}
use Rattle.plain_laws.proofs.Each.{all_from_among, each_append, each_from_among}
use Rattle.plain_laws.proofs.Members.{Among, among_index, contains_among}
use Rattle.plain_laws.proofs.Tests.{among_any, any_among}

-- ---- of the first and the others, and of two lists end to end

pub pairs_first : {X : Type 0} (R : X → X → Type 0) (x : X) (xs : List X) → AllPairs R (x ∷ xs) → (y : X) → Contains xs y → R x y
pairs_first {X} R x xs pairs y there =
    let stands : R x (get_or xs there.0 y) = pairs 0 (suc there.0) y (omega arith) (omega (arith, there.1)) in
    subst (λ (z : X). R x z) there.2 stands

pub pairs_rest : {X : Type 0} (R : X → X → Type 0) (x : X) (xs : List X) → AllPairs R (x ∷ xs) → AllPairs R xs
pairs_rest R x xs pairs i j d less below = pairs (suc i) (suc j) d (omega arith) (omega arith)

pub pairs_across : {X : Type 0} (R : X → X → Type 0) (xs ys : List X) → AllPairs R (xs ++ ys) → (x y : X) → Contains xs x → Contains ys y → R x y
pairs_across {X} R xs ys pairs x y here there =
    let stands : R (get_or (xs ++ ys) here.0 x) (get_or (xs ++ ys) (length xs + there.0) x) = pairs here.0 (length xs + there.0) x (let below : here.0 < length xs = here.1 in omega arith) (let below : there.0 < length ys = there.1 in omega (arith, length-append xs ys)) in
    let first : get_or (xs ++ ys) here.0 x ≡ x = get_or_append_left xs ys x here.0 here.1 ∙ here.2 in
    let second : get_or (xs ++ ys) (length xs + there.0) x ≡ y = get_or-append-add xs ys there.0 x ∙ get_or_default ys there.0 x y there.1 ∙ there.2 in
    subst (λ (z : X). R x z) second (subst (λ (z : X). R z (get_or (xs ++ ys) (length xs + there.0) x)) first stands)

pub pairs_second : {X : Type 0} (R : X → X → Type 0) (xs ys : List X) → AllPairs R (xs ++ ys) → AllPairs R ys
pairs_second R [] ys pairs = pairs
pairs_second R (x ∷ xs) ys pairs = pairs_second R xs ys (pairs_rest R x (xs ++ ys) pairs)

pub pairs_append : {X : Type 0} (R : X → X → Type 0) (xs ys : List X) → AllPairs R xs → AllPairs R ys → ((x y : X) → Among xs x → Among ys y → R x y) → AllPairs R (xs ++ ys)
pairs_append R [] ys first second across = second
pairs_append R (x ∷ xs) ys first second across =
    AllPairs-cons R x (xs ++ ys) (All-append (R x) xs ys
    (all_from_among (R x) xs (λ y there. pairs_first R x xs first y (contains_among xs y there)))
    (all_from_among (R x) ys (λ y there. across x y (inl refl) there)))
    (pairs_append R xs ys (pairs_rest R x xs first) second (λ a b here there. across a b (inr here) there))

-- ---- of any two members, one way or the other

in_order : {X : Type 0} (R : X → X → Type 0) (xs : List X) → AllPairs R xs → (x y : X) (here : Contains xs x) (there : Contains xs y) → here.0 < there.0 → R x y
in_order {X} R xs pairs x y here there less =
    let stands : R (get_or xs here.0 x) (get_or xs there.0 x) = pairs here.0 there.0 x less there.1 in
    let second : get_or xs there.0 x ≡ y = get_or_default xs there.0 x y there.1 ∙ there.2 in
    subst (λ (z : X). R x z) second (subst (λ (z : X). R z (get_or xs there.0 x)) here.2 stands)

at_one_place : {X : Type 0} (xs : List X) (x y : X) (here : Contains xs x) (there : Contains xs y) → here.0 ≡ there.0 → x ≡ y
at_one_place {X} xs x y here there same = sym here.2 ∙ ap (λ (n : ℕ). get_or xs n x) same ∙ get_or_default xs there.0 x y there.1 ∙ there.2

pub pairs_any : {X : Type 0} (R : X → X → Type 0) (xs : List X) → AllPairs R xs → (x y : X) → Contains xs x → Contains xs y → R x y ⊎ ((x ≡ y) ⊎ R y x)
pairs_any {X} R xs pairs x y here there = first (cases_lt here.0 there.0)
  where
    second : there.0 ≤ here.0 → (there.0 < here.0) ⊎ (here.0 ≤ there.0) → R x y ⊎ ((x ≡ y) ⊎ R y x)
    second upto (inl less) = inr (inr (in_order R xs pairs y x there here less))
    second upto (inr most) = inr (inl (at_one_place xs x y here there (omega arith)))

    first : (here.0 < there.0) ⊎ (there.0 ≤ here.0) → R x y ⊎ ((x ≡ y) ⊎ R y x)
    first (inl less) = inl (in_order R xs pairs x y here there less)
    first (inr upto) = second upto (cases_lt there.0 here.0)

-- ---- of what is read of the elements, and where another relation follows

pub pairs_map : {X Y : Type 0} (R : Y → Y → Type 0) (f : X → Y) (xs : List X) → AllPairs (λ x z. R (f x) (f z)) xs → AllPairs R (map f xs)
pairs_map R f [] pairs i j d less below = absurd (omega arith)
pairs_map R f (x ∷ xs) pairs i j d less below =
    let last : j < length (x ∷ xs) = omega (arith, length-map (x ∷ xs) f) in
    let first : i < length (x ∷ xs) = omega arith in
    rw (get_or-map f (x ∷ xs) i x d first, get_or-map f (x ∷ xs) j x d last) (pairs i j x less last)

pub pairs_read : {X Y : Type 0} (R : Y → Y → Type 0) (f : X → Y) (xs : List X) → AllPairs R (map f xs) → AllPairs (λ x z. R (f x) (f z)) xs
pairs_read {X} {Y} R f xs pairs i j d less below =
    let first : i < length xs = omega arith in
    let stands : R (get_or (map f xs) i (f d)) (get_or (map f xs) j (f d)) = pairs i j (f d) less (omega (arith, length-map xs f)) in
    subst (λ (z : Y). R (f (get_or xs i d)) z) (get_or-map f xs j d (f d) below) (subst (λ (z : Y). R z (get_or (map f xs) j (f d))) (get_or-map f xs i d (f d) first) stands)

pub pairs_follow : {X : Type 0} (S R : X → X → Type 0) (xs : List X) → ((x y : X) → Among xs x → Among xs y → S x y → R x y) → AllPairs S xs → AllPairs R xs
pairs_follow S R xs follows pairs i j d less below =
    let first : i < length xs = omega arith in
    follows (get_or xs i d) (get_or xs j d) (among_index xs i d first) (among_index xs j d below) (pairs i j d less below)

-- ---- elements that differ

-- numbers that differ, and those of them that pass a test
pub different_filter : (p : ℕ → Bool) (xs : List ℕ) → IsDistinct nat_eq xs → AllPairs (λ x y. x ≢ y) (filter p xs)
different_filter p xs distinct = AllPairs-filter (λ x y. x ≢ y) p xs (AllPairs-from_IsDistinct Decides-eqb xs distinct)

-- numbers that differ are no more than those of a list that has them all
pub different_no_more : (xs ys : List ℕ) → AllPairs (λ x y. x ≢ y) xs → ((x : ℕ) → Among xs x → Among ys x) → length xs ≤ length ys
different_no_more xs ys different has =
    length-le_from_is_member nat_eq_equiv xs ys (IsDistinct-from_AllPairs Decides-eqb xs different)
    (λ q there.
    let from = any_among (nat_eq q) xs there in
    among_any (nat_eq q) ys from.0 (has from.0 from.1) from.2)

pub distinct_append : {X : Type 0} (same : X → X → Bool) (xs ys : List X) → IsDistinct same xs → IsDistinct same ys → ((x y : X) → Among xs x → Among ys y → same x y ≡ false) → IsDistinct same (xs ++ ys)
unfolding IsDistinct
distinct_append same [] ys first second across = second
distinct_append same (x ∷ xs) ys first second across = (
  each_append (λ y. same x y ≡ false) xs ys first.0 (each_from_among (λ y. same x y ≡ false) ys (λ y there. across x y (inl refl) there)),
  distinct_append same xs ys first.1 second (λ z y here there. across z y (inr here) there),
)

pub distinct_filter : {X : Type 0} (same : X → X → Bool) (p : X → Bool) (xs : List X) → IsDistinct same xs → IsDistinct same (filter p xs)
distinct_filter same p xs distinct =
    IsDistinct-from_apart same (filter p xs) (AllPairs-filter (λ x y. same x y ≡ false) p xs (λ i j d less below. apart_from_distinct same xs i j d distinct less below))

-- one element is no two
pub pairs_one : {X : Type 0} (R : X → X → Type 0) (x : X) → AllPairs R (x ∷ [])
pairs_one R x i j d less below = absurd (omega arith)
