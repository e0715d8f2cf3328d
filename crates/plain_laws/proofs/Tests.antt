-- Tests of some element and of each element of a list.
use Rattle.std.proofs.Common.{◌≡◌, ℕ, zero, suc, ◌+◌, ◌<◌, ◌≤◌, List, [], ◌∷◌, map, length, take, get_or, Bool, true, false, ◌&&◌, ◌||◌, cond, inl, inr, refl, ap, sym, subst, ◌∙◌, arith}
use Rattle.std.specs.List.{filter, list_all, list_any, dedup, dedup_from}
use Rattle.std.proofs.lemmas.Bool.{and_from, false_from_ne_true, or_cases, or_left, or_parts, or_right}
use Rattle.std.proofs.lemmas.List.{take_all}
use Rattle.std.proofs.lemmas.List.Folds.{list_any_at, list_any_more}
use Rattle.plain_laws.proofs.Members.{Among}
use Rattle.plain_laws.proofs.Truth.{and_first, and_second}

-- ---- some element passes

pub among_any : {X : Type 0} (p : X → Bool) (xs : List X) (x : X) → Among xs x → p x ≡ true → list_any p xs ≡ true
among_any p [] x h passes = absurd h
among_any p (y ∷ ys) x (inl is) passes = or_left (p y) (list_any p ys) (ap p is ∙ passes)
among_any p (y ∷ ys) x (inr there) passes = or_right (p y) (list_any p ys) (among_any p ys x there passes)

pub any_among : {X : Type 0} (p : X → Bool) (xs : List X) → list_any p xs ≡ true → (x : X) × Among xs x × (p x ≡ true)
any_among p [] h = absurd cc
any_among p (y ∷ ys) h =
    elim (or_cases (p y) (list_any p ys) h) [ inl here ↦ (y, inl refl, here) | inr there ↦ (let from = any_among p ys there in (from.0, inr from.1, from.2)) ]

-- where none passes, no member does, and not the one at an index
pub none_among : {X : Type 0} (p : X → Bool) (xs : List X) (x : X) → list_any p xs ≡ false → Among xs x → p x ≡ false
none_among p xs x none there = false_from_ne_true (p x) (λ passes. let some : list_any p xs ≡ true = among_any p xs x there passes in cc)

pub none_at : {X : Type 0} (p : X → Bool) (xs : List X) (i : ℕ) (d : X) → list_any p xs ≡ false → i < length xs → p (get_or xs i d) ≡ false
none_at p [] i d h within = absurd (omega arith)
none_at p (x ∷ xs) zero d h within = (or_parts (p x) (list_any p xs) h).0
none_at p (x ∷ xs) (suc i) d h within = none_at p xs i d (or_parts (p x) (list_any p xs) h).1 (omega arith)

-- one that a loop comes by, one more that fails, and the end
pub any_here : {X : Type 0} (p : X → Bool) (xs : List X) (i : ℕ) (x : X) → i < length xs → x ≡ get_or xs i x → p x ≡ true → list_any p xs ≡ true
any_here p xs i x within is passes = list_any_at p xs i x within (ap p (sym is) ∙ passes)

pub none_more : {X : Type 0} (p : X → Bool) (xs : List X) (i : ℕ) (x : X) → i < length xs → x ≡ get_or xs i x → p x ≡ false → list_any p (take i xs) ≡ false → list_any p (take (i + 1) xs) ≡ false
none_more p xs i x within is fails none = list_any_more p xs i x within ∙ rw (none, ← is) fails

pub none_whole : {X : Type 0} (p : X → Bool) (xs : List X) (i : ℕ) → length xs ≤ i → list_any p (take i xs) ≡ false → list_any p xs ≡ false
none_whole p xs i all none = ap (list_any p) (sym (take_all i xs all)) ∙ none

-- ---- tests that agree, and tests of what is made of the list

pub any_same : {X : Type 0} (p q : X → Bool) → ((x : X) → p x ≡ q x) → (xs : List X) → list_any p xs ≡ list_any q xs
any_same p q alike [] = refl
any_same p q alike (x ∷ xs) = ap (λ (b : Bool). b || list_any p xs) (alike x) ∙ ap (λ (b : Bool). q x || b) (any_same p q alike xs)

pub any_map : {X Y : Type 0} (p : Y → Bool) (f : X → Y) (xs : List X) → list_any p (map f xs) ≡ list_any (λ x. p (f x)) xs
any_map p f [] = refl
any_map p f (x ∷ xs) = ap (λ (r : Bool). p (f x) || r) (any_map p f xs)

any_kept : {X Y : Type 0} (p : Y → Bool) (f : X → Y) (x : X) (kept : List X) (b : Bool) → list_any p (map f (cond b (x ∷ kept) kept)) ≡ ((b && p (f x)) || list_any p (map f kept))
any_kept p f x kept true = refl
any_kept p f x kept false = refl

pub any_map_filter : {X Y : Type 0} (p : Y → Bool) (f : X → Y) (q : X → Bool) (xs : List X) → list_any p (map f (filter q xs)) ≡ list_any (λ x. q x && p (f x)) xs
any_map_filter p f q [] = refl
any_map_filter p f q (x ∷ xs) = any_kept p f x (filter q xs) (q x) ∙ ap (λ (r : Bool). (q x && p (f x)) || r) (any_map_filter p f q xs)

twice : (a b r : Bool) → a ≡ b → (b || r) ≡ (b || (a || r))
twice a true r same = refl
twice true false r same = absurd cc
twice false false r same = refl

any_one : {X : Type 0} (q : X → Bool) (k x : X) (xs same_kept other_kept : List X) (b : Bool) → (b ≡ true → q x ≡ q k)
    → list_any q same_kept ≡ (q k || list_any q xs) → list_any q other_kept ≡ (q x || list_any q xs) → list_any q (cond b same_kept (k ∷ other_kept)) ≡ (q k || (q x || list_any q xs))
any_one q k x xs same_kept other_kept true alike same other = same ∙ twice (q x) (q k) (list_any q xs) (alike refl)
any_one q k x xs same_kept other_kept false alike same other = ap (λ (r : Bool). q k || r) other

any_from : {X : Type 0} (same : X → X → Bool) (q : X → Bool) → ((x y : X) → same x y ≡ true → q x ≡ q y) → (k : X) (xs : List X) → list_any q (dedup_from same k xs) ≡ (q k || list_any q xs)
any_from same q alike k [] = refl
any_from same q alike k (x ∷ xs) = any_one q k x xs (dedup_from same k xs) (dedup_from same x xs) (same x k) (alike x k) (any_from same q alike k xs) (any_from same q alike x xs)

-- where repeated ones are dropped
pub any_dedup : {X : Type 0} (same : X → X → Bool) → ((x y : X) → same x y ≡ true → x ≡ y) → (q : X → Bool) (xs : List X) → list_any q (dedup same xs) ≡ list_any q xs
any_dedup same equal q [] = refl
any_dedup same equal q (x ∷ xs) = any_from same q (λ y z h. ap q (equal y z h)) x xs

-- ---- two tests at once

pub any_never : {X : Type 0} (xs : List X) → list_any (λ x. false) xs ≡ false
any_never [] = refl
any_never (x ∷ xs) = any_never xs

pub any_and : {X : Type 0} (b : Bool) (p : X → Bool) (xs : List X) → list_any (λ x. b && p x) xs ≡ (b && list_any p xs)
any_and true p xs = refl
any_and false p xs = any_never xs

four : (a b c d : Bool) → ((a || b) || (c || d)) ≡ ((a || c) || (b || d))
four true b c d = refl
four false true true d = refl
four false true false d = refl
four false false c d = refl

pub any_or : {X : Type 0} (p q : X → Bool) (xs : List X) → list_any (λ x. p x || q x) xs ≡ (list_any p xs || list_any q xs)
any_or p q [] = refl
any_or p q (x ∷ xs) = ap (λ (b : Bool). (p x || q x) || b) (any_or p q xs) ∙ four (p x) (q x) (list_any p xs) (list_any q xs)

-- two lists asked one inside the other, in either order
pub any_turned : {X Y : Type 0} (f : X → Y → Bool) (xs : List X) (ys : List Y) → list_any (λ x. list_any (f x) ys) xs ≡ list_any (λ y. list_any (λ x. f x y) xs) ys
any_turned f [] ys = sym (any_never ys)
any_turned f (x ∷ xs) ys = ap (λ (b : Bool). list_any (f x) ys || b) (any_turned f xs ys) ∙ sym (any_or (f x) (λ y. list_any (λ x. f x y) xs) ys)

-- ---- each element passes

pub all_among : {X : Type 0} (p : X → Bool) (xs : List X) → list_all p xs ≡ true → (x : X) → Among xs x → p x ≡ true
all_among p [] all x there = absurd there
all_among p (y ∷ xs) all x (inl is) = subst (λ (z : _). p z ≡ true) is (and_first (p y) (list_all p xs) all)
all_among p (y ∷ xs) all x (inr there) = all_among p xs (and_second (p y) (list_all p xs) all) x there

pub among_all : {X : Type 0} (p : X → Bool) (xs : List X) → ((x : X) → Among xs x → p x ≡ true) → list_all p xs ≡ true
among_all p [] each = refl
among_all p (y ∷ xs) each = and_from (p y) (list_all p xs) (each y (inl refl)) (among_all p xs (λ x there. each x (inr there)))

-- where no element passes, none does
pub among_none : {X : Type 0} (p : X → Bool) (xs : List X) → ((x : X) → Among xs x → p x ≡ false) → list_any p xs ≡ false
among_none p [] each = refl
among_none p (y ∷ xs) each = neither_passes (p y) (list_any p xs) (each y (inl refl)) (among_none p xs (λ x there. each x (inr there)))
  where
    neither_passes : (a b : Bool) → a ≡ false → b ≡ false → (a || b) ≡ false
    neither_passes true b first rest = first
    neither_passes false b first rest = rest
