-- The front of a list that passes a test, and what stands after it.
use Rattle.std.proofs.Common.{◌≡◌, ℕ, ◌+◌, List, [], ◌∷◌, ◌++◌, take, drop, Bool, true, false, cond, refl, ap, add_comm, add-one}
use Rattle.std.specs.List.{filter, prefix_len}

abbrev pub front : {X : Type 0} → (X → Bool) → List X → List X
front p [] = []
front p (x ∷ xs) = cond (p x) (x ∷ front p xs) []

abbrev pub past : {X : Type 0} → (X → Bool) → List X → List X
past p [] = []
past p (x ∷ xs) = cond (p x) (past p xs) (x ∷ xs)

take_more_one : {X : Type 0} (x : X) (xs ys : List X) (n : ℕ) (b : Bool) → take n xs ≡ ys → take (cond b (1 + n) 0) (x ∷ xs) ≡ cond b (x ∷ ys) []
take_more_one x xs ys n true h = rw (add_comm 1 n, add-one) (ap (λ (zs : List _). x ∷ zs) h)
take_more_one x xs ys n false h = refl

drop_more_one : {X : Type 0} (x : X) (xs ys : List X) (n : ℕ) (b : Bool) → drop n xs ≡ ys → drop (cond b (1 + n) 0) (x ∷ xs) ≡ cond b ys (x ∷ xs)
drop_more_one x xs ys n true h = rw (add_comm 1 n, add-one) h
drop_more_one x xs ys n false h = refl

pub take_front : {X : Type 0} (p : X → Bool) (xs : List X) → take (prefix_len p xs) xs ≡ front p xs
take_front p [] = refl
take_front p (x ∷ xs) = take_more_one x xs (front p xs) (prefix_len p xs) (p x) (take_front p xs)

pub drop_past : {X : Type 0} (p : X → Bool) (xs : List X) → drop (prefix_len p xs) xs ≡ past p xs
drop_past p [] = refl
drop_past p (x ∷ xs) = drop_more_one x xs (past p xs) (prefix_len p xs) (p x) (drop_past p xs)

joined_one : {X : Type 0} (x : X) (ys zs xs : List X) (b : Bool) → ys ++ zs ≡ xs → cond b (x ∷ ys) [] ++ cond b zs (x ∷ xs) ≡ x ∷ xs
joined_one x ys zs xs true h = ap (λ (all : List _). x ∷ all) h
joined_one x ys zs xs false h = refl

pub front_past : {X : Type 0} (p : X → Bool) (xs : List X) → front p xs ++ past p xs ≡ xs
front_past p [] = refl
front_past p (x ∷ xs) = joined_one x (front p xs) (past p xs) xs (p x) (front_past p xs)

kept_one : {X : Type 0} (p : X → Bool) (x : X) (ys : List X) (b : Bool) → p x ≡ b → filter p ys ≡ ys → filter p (cond b (x ∷ ys) []) ≡ cond b (x ∷ ys) []
kept_one p x ys true is h = rw (is, h) refl
kept_one p x ys false is h = refl

pub filter_front : {X : Type 0} (p : X → Bool) (xs : List X) → filter p (front p xs) ≡ front p xs
filter_front p [] = refl
filter_front p (x ∷ xs) = kept_one p x (front p xs) (p x) refl (filter_front p xs)
