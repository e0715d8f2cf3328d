-- A sublist: some of the elements of a list, in their order.
use Rattle.std.proofs.Common.{◌≡◌, ℕ, ◌≤◌, ◌⊎◌, inl, inr, List, [], ◌∷◌, ◌++◌, length, Bool, true, false, cond, Option, Some, None, refl, ap, sym, subst, arith, length-append}
use Rattle.std.specs.List.{AllPairs, cons_option, filter, filter_map, flat_map}
use Rattle.std.proofs.lemmas.List.Kept.{AllPairs-cons}
use Rattle.plain_laws.proofs.Each.{all_from_among}
use Rattle.plain_laws.proofs.Members.{Among, contains_among}
use Rattle.plain_laws.proofs.Pairs.{pairs_first, pairs_rest}

abbrev pub IsSublist : {X : Type 0} → List X → List X → Type 0
IsSublist {X} xs [] = xs ≡ []
IsSublist {X} xs (y ∷ ys) = IsSublist xs ys ⊎ ((zs : List X) × (xs ≡ y ∷ zs) × IsSublist zs ys)

pub sublist_first : {X : Type 0} (x : X) (xs ys : List X) → IsSublist xs ys → IsSublist (x ∷ xs) (x ∷ ys)
sublist_first x xs ys part = inr (xs, refl, part)

sublist_kept : {X : Type 0} (y : X) (xs ys : List X) (b : Bool) → IsSublist xs ys → IsSublist (cond b (y ∷ xs) xs) (y ∷ ys)
sublist_kept y xs ys true part = sublist_first y xs ys part
sublist_kept y xs ys false part = inl part

-- what passes a test is a sublist
pub sublist_filter : {X : Type 0} (p : X → Bool) (ys : List X) → IsSublist (filter p ys) ys
sublist_filter p [] = refl
sublist_filter p (y ∷ ys) = sublist_kept y (filter p ys) ys (p y) (sublist_filter p ys)

-- and of a sublist it is a sublist of what passes it of the whole
sublist_skipped : {X : Type 0} (y : X) (xs ys : List X) (b : Bool) → IsSublist xs ys → IsSublist xs (cond b (y ∷ ys) ys)
sublist_skipped y xs ys true part = inl part
sublist_skipped y xs ys false part = part

sublist_both : {X : Type 0} (y : X) (xs ys : List X) (b : Bool) → IsSublist xs ys → IsSublist (cond b (y ∷ xs) xs) (cond b (y ∷ ys) ys)
sublist_both y xs ys true part = sublist_first y xs ys part
sublist_both y xs ys false part = part

pub sublist_filtered : {X : Type 0} (p : X → Bool) (xs ys : List X) → IsSublist xs ys → IsSublist (filter p xs) (filter p ys)
sublist_filtered p xs [] part = ap (filter p) part
sublist_filtered p xs (y ∷ ys) (inl part) = sublist_skipped y (filter p xs) (filter p ys) (p y) (sublist_filtered p xs ys part)
sublist_filtered {X} p xs (y ∷ ys) (inr (zs, is, part)) =
    subst (λ (list : List X). IsSublist (filter p list) (filter p (y ∷ ys))) (sym is) (sublist_both y (filter p zs) (filter p ys) (p y) (sublist_filtered p zs ys part))

-- so are the values where there are any
option_skipped : {Y : Type 0} (found : Option Y) (xs ys : List Y) → IsSublist xs ys → IsSublist xs (cons_option found ys)
option_skipped None xs ys part = part
option_skipped (Some y) xs ys part = inl part

option_both : {Y : Type 0} (found : Option Y) (xs ys : List Y) → IsSublist xs ys → IsSublist (cons_option found xs) (cons_option found ys)
option_both None xs ys part = part
option_both (Some y) xs ys part = sublist_first y xs ys part

pub sublist_filter_map : {X Y : Type 0} (h : X → Option Y) (xs ys : List X) → IsSublist xs ys → IsSublist (filter_map h xs) (filter_map h ys)
sublist_filter_map h xs [] part = ap (filter_map h) part
sublist_filter_map h xs (y ∷ ys) (inl part) = option_skipped (h y) (filter_map h xs) (filter_map h ys) (sublist_filter_map h xs ys part)
sublist_filter_map {X} h xs (y ∷ ys) (inr (zs, is, part)) =
    subst (λ (list : List X). IsSublist (filter_map h list) (filter_map h (y ∷ ys))) (sym is) (option_both (h y) (filter_map h zs) (filter_map h ys) (sublist_filter_map h zs ys part))

-- a list before both leaves a sublist
pub sublist_after : {X : Type 0} (zs xs ys : List X) → IsSublist xs ys → IsSublist (zs ++ xs) (zs ++ ys)
sublist_after [] xs ys part = part
sublist_after (z ∷ zs) xs ys part = sublist_first z (zs ++ xs) (zs ++ ys) (sublist_after zs xs ys part)

pub sublist_among : {X : Type 0} (xs ys : List X) (x : X) → IsSublist xs ys → Among xs x → Among ys x
sublist_among xs [] x part there = subst (λ (list : List _). Among list x) part there
sublist_among xs (y ∷ ys) x (inl part) there = inr (sublist_among xs ys x part there)
sublist_among {X} xs (y ∷ ys) x (inr (zs, is, part)) there = elim (subst (λ (list : List X). Among list x) is there) [
  | inl here ↦ inl here
  | inr later ↦ inr (sublist_among zs ys x part later)
]

-- a sublist is no longer than the list
pub sublist_length : {X : Type 0} (xs ys : List X) → IsSublist xs ys → length xs ≤ length ys
sublist_length xs [] part = rw part (omega arith)
sublist_length xs (y ∷ ys) (inl part) = let rest = sublist_length xs ys part in omega (arith, rest)
sublist_length xs (y ∷ ys) (inr (zs, is, part)) = let rest = sublist_length zs ys part in rw is (omega (arith, rest))

pub sublist_flat_length : {X Y : Type 0} (f : X → List Y) (xs ys : List X) → IsSublist xs ys → length (flat_map f xs) ≤ length (flat_map f ys)
sublist_flat_length f xs [] part = rw part (omega arith)
sublist_flat_length f xs (y ∷ ys) (inl part) =
    let rest = sublist_flat_length f xs ys part in
    let whole = length-append (f y) (flat_map f ys) in
    omega (arith, rest, whole)
sublist_flat_length {X} f xs (y ∷ ys) (inr (zs, is, part)) =
    let rest = sublist_flat_length f zs ys part in
    let whole = length-append (f y) (flat_map f ys) in
    let kept = length-append (f y) (flat_map f zs) in
    subst (λ (list : List X). length (flat_map f list) ≤ length (flat_map f (y ∷ ys))) (sym is) (omega (arith, rest, whole, kept))

-- what holds of any two of a list holds of any two of a sublist
pub sublist_pairs : {X : Type 0} (R : X → X → Type 0) (xs ys : List X) → IsSublist xs ys → AllPairs R ys → AllPairs R xs
sublist_pairs R xs [] part pairs = subst (AllPairs R) (sym part) pairs
sublist_pairs R xs (y ∷ ys) (inl part) pairs = sublist_pairs R xs ys part (pairs_rest R y ys pairs)
sublist_pairs R xs (y ∷ ys) (inr (zs, is, part)) pairs =
    subst (AllPairs R) (sym is)
    (AllPairs-cons R y zs (all_from_among (R y) zs (λ other there. pairs_first R y ys pairs other (contains_among ys other (sublist_among zs ys other part there)))) (sublist_pairs R zs ys part (pairs_rest R y ys pairs)))
