-- Lists in the order of a relation that goes one way: those with the same members are one.
use Rattle.std.proofs.Common.{◌≡◌, ◌⊎◌, inl, inr, List, [], ◌∷◌, refl, ap, sym, ◌∙◌, subst}
use Rattle.std.specs.List.{AllPairs}
use Rattle.std.specs.List.Sorted.{IsStrictlySortedBy}
use Rattle.std.specs.Ordering.{ordering_then}
use Rattle.std.specs.declared.cmp.Ordering.{Ordering}
use Rattle.std.specs.declared.cmp.Ordering.TheVariants.{Less, Equal, Greater}
use Rattle.std.specs.Prelude.{Contains}
use Rattle.std.proofs.lemmas.Map.Keys.{Less-from_sorted}
use Rattle.plain_laws.proofs.Each.{each_weaker}
use Rattle.plain_laws.proofs.Members.{Among, among_contained, contains_among, contains_cases, contains_first, contains_nothing, contains_rest}
use Rattle.plain_laws.proofs.Pairs.{pairs_first, pairs_rest}

-- two do not stand in the relation both ways
abbrev pub IsOneWay : {X : Type 0} → (X → X → Type 0) → Type 0
IsOneWay {X} R = (x y : X) → R x y → R y x → ⊥

first_one : {X : Type 0} (R : X → X → Type 0) (x y : X) (xs ys : List X) → IsOneWay R → AllPairs R (x ∷ xs) → AllPairs R (y ∷ ys) → (y ≡ x) ⊎ Contains ys x → (x ≡ y) ⊎ Contains xs y → x ≡ y
first_one R x y xs ys one_way low low' (inl same) back = sym same
first_one R x y xs ys one_way low low' (inr there) (inl same) = same
first_one R x y xs ys one_way low low' (inr there) (inr back) = absurd (one_way y x (pairs_first R y ys low' x there) (pairs_first R x xs low y back))

rest_there : {X : Type 0} (R : X → X → Type 0) (x y z : X) (xs ys : List X) → IsOneWay R → x ≡ y → AllPairs R (x ∷ xs) → Contains xs z → (y ≡ z) ⊎ Contains ys z → Contains ys z
rest_there {X} R x y z xs ys one_way same low there (inl is) =
    let itself : R x x = subst (λ (z : X). R x z) (sym (same ∙ is)) (pairs_first R x xs low z there) in
    absurd (one_way x x itself itself)
rest_there R x y z xs ys one_way same low there (inr later) = later

pub one_in_order : {X : Type 0} (R : X → X → Type 0) (xs ys : List X) → IsOneWay R → AllPairs R xs → AllPairs R ys
    → ((z : X) → Contains xs z → Contains ys z) → ((z : X) → Contains ys z → Contains xs z) → xs ≡ ys
one_in_order R [] [] one_way up up' there back = refl
one_in_order R [] (y ∷ ys) one_way up up' there back = contains_nothing y (back y (contains_first y ys))
one_in_order R (x ∷ xs) [] one_way up up' there back = contains_nothing x (there x (contains_first x xs))
one_in_order R (x ∷ xs) (y ∷ ys) one_way up up' there back =
    let same = first_one R x y xs ys one_way up up' (contains_cases y ys x (there x (contains_first x xs))) (contains_cases x xs y (back y (contains_first y ys))) in
    let rest = one_in_order R xs ys one_way (pairs_rest R x xs up) (pairs_rest R y ys up')
    (λ z has. rest_there R x y z xs ys one_way same up has (contains_cases y ys z (there z (contains_rest x xs z has))))
    (λ z has. rest_there R y x z ys xs one_way (sym same) up' has (contains_cases x xs z (back z (contains_rest y ys z has)))) in
    ap (λ (first : _). first ∷ xs) same ∙ ap (λ (rest : List _). y ∷ rest) rest

pub pairs_sorted : {X : Type 0} (order : X → X → Ordering) (xs : List X) → IsStrictlySortedBy order xs → AllPairs (λ x y. order x y ≡ Less) xs
pairs_sorted order xs sorted i j d less below = Less-from_sorted order xs i j d sorted less below

-- the same of lists that an order sorts
pub one_sorted : {X : Type 0} (order : X → X → Ordering) (xs ys : List X) → IsOneWay (λ x y. order x y ≡ Less) → IsStrictlySortedBy order xs → IsStrictlySortedBy order ys
    → ((z : X) → Among xs z → Among ys z) → ((z : X) → Among ys z → Among xs z) → xs ≡ ys
one_sorted order xs ys one_way sorted sorted' there back =
    one_in_order (λ x y. order x y ≡ Less) xs ys one_way (pairs_sorted order xs sorted) (pairs_sorted order ys sorted')
    (λ z has. contains_among ys z (there z (among_contained xs z has)))
    (λ z has. contains_among xs z (back z (among_contained ys z has)))

-- what is sorted by one order is sorted by another that is the same everywhere
pub sorted_alike : {X : Type 0} (one other : X → X → Ordering) (xs : List X) → ((y z : X) → one y z ≡ other y z) → IsStrictlySortedBy one xs → IsStrictlySortedBy other xs
unfolding IsStrictlySortedBy
sorted_alike one other [] alike sorted = tt
sorted_alike one other (x ∷ xs) alike sorted =
    (each_weaker (λ y. one x y ≡ Less) (λ y. other x y ≡ Less) xs (λ y less. sym (alike x y) ∙ less) sorted.0, sorted_alike one other xs alike sorted.1)

-- ---- an order by two keys, one after the other

pub then_less : (o p : Ordering) → ordering_then o p ≡ Less → (o ≡ Less) ⊎ ((o ≡ Equal) × (p ≡ Less))
then_less Less p is = inl refl
then_less Equal p is = inr (refl, is)
then_less Greater p is = absurd cc

pub then_equal : (o p : Ordering) → ordering_then o p ≡ Equal → (o ≡ Equal) × (p ≡ Equal)
then_equal Less p h = absurd cc
then_equal Equal p h = (refl, h)
then_equal Greater p h = absurd cc

pub then_not_greater : (o p : Ordering) → ordering_then o p ≡ Less → o ≡ Greater → ⊥
then_not_greater Less p h g = cc
then_not_greater Equal p h g = cc
then_not_greater Greater p h g = cc

-- where the second key ties, the first one decides
pub then_first : (o p : Ordering) → p ≡ Equal → ordering_then o p ≡ Less → o ≡ Less
then_first Less p is h = refl
then_first Equal p is h = let both : Equal ≡ Less = sym is ∙ h in absurd cc
then_first Greater p is h = absurd cc
