-- What is among the elements of a list: membership by recursion, and the members of a list that is made from another one.
use Rattle.std.proofs.Common.{◌≡◌, ℕ, zero, suc, ◌<◌, ◌⊎◌, inl, inr, List, [], ◌∷◌, ◌++◌, map, length, get_or, Bool, true, false, cond, Option, Some, None, Contains, refl, ap, sym, ◌∙◌, subst, arith, ⊎_elim}
use Rattle.std.specs.List.{filter, filter_map, cons_option, flat_map}
use Rattle.std.proofs.lemmas.List.{get_or_default}
use Rattle.std.proofs.lemmas.List.Elements.{Contains-append_left, Contains-push, Contains-append_cases, Contains-push_cases}
use Rattle.std.proofs.lemmas.Option.{same_Some}

-- an element is the first of a list, or among the others
abbrev pub Among : {X : Type 0} → List X → X → Type 0
Among [] x = ⊥
Among (y ∷ ys) x = (y ≡ x) ⊎ Among ys x

among_at : {X : Type 0} (xs : List X) (k : ℕ) (x d : X) → k < length xs → get_or xs k d ≡ x → Among xs x
among_at [] k x d within is = absurd (omega arith)
among_at (y ∷ ys) zero x d within is = inl is
among_at (y ∷ ys) (suc k) x d within is = inr (among_at ys k x d (omega arith) is)

-- this is std's membership by an index
pub among_contained : {X : Type 0} (xs : List X) (x : X) → Contains xs x → Among xs x
among_contained xs x h = among_at xs h.0 x x h.1 h.2

pub contains_rest : {X : Type 0} (y : X) (ys : List X) (x : X) → Contains ys x → Contains (y ∷ ys) x
contains_rest y ys x h = (suc h.0, omega (arith, h.1), h.2)

pub contains_among : {X : Type 0} (xs : List X) (x : X) → Among xs x → Contains xs x
contains_among [] x h = absurd h
contains_among (y ∷ ys) x (inl is) = (0, omega arith, is)
contains_among (y ∷ ys) x (inr there) = contains_rest y ys x (contains_among ys x there)

-- of two lists end to end
pub among_left : {X : Type 0} (xs ys : List X) (x : X) → Among xs x → Among (xs ++ ys) x
among_left [] ys x h = absurd h
among_left (z ∷ xs) ys x (inl is) = inl is
among_left (z ∷ xs) ys x (inr there) = inr (among_left xs ys x there)

pub among_right : {X : Type 0} (xs ys : List X) (x : X) → Among ys x → Among (xs ++ ys) x
among_right [] ys x h = h
among_right (z ∷ xs) ys x h = inr (among_right xs ys x h)

pub among_either : {X : Type 0} (xs ys : List X) (x : X) → Among (xs ++ ys) x → Among xs x ⊎ Among ys x
among_either [] ys x h = inr h
among_either (z ∷ xs) ys x (inl is) = inl (inl is)
among_either (z ∷ xs) ys x (inr there) = elim (among_either xs ys x there) [ inl here ↦ inl (inr here) | inr later ↦ inr later ]

-- of what passes a test
filtered_one : {X : Type 0} (p : X → Bool) (y : X) (kept : List X) (x : X) (b : Bool) → p y ≡ b → (Among kept x → p x ≡ true) → Among (cond b (y ∷ kept) kept) x → p x ≡ true
filtered_one p y kept x true is rest (inl here) = subst (λ (z : _). p z ≡ true) here is
filtered_one p y kept x true is rest (inr there) = rest there
filtered_one p y kept x false is rest h = rest h

pub among_filter_passes : {X : Type 0} (p : X → Bool) (xs : List X) (x : X) → Among (filter p xs) x → p x ≡ true
among_filter_passes p [] x h = absurd h
among_filter_passes p (y ∷ ys) x h = filtered_one p y (filter p ys) x (p y) refl (among_filter_passes p ys x) h

before_one : {X : Type 0} (y : X) (kept ys : List X) (x : X) (b : Bool) → (Among kept x → Among ys x) → Among (cond b (y ∷ kept) kept) x → Among (y ∷ ys) x
before_one y kept ys x true rest (inl here) = inl here
before_one y kept ys x true rest (inr there) = inr (rest there)
before_one y kept ys x false rest h = inr (rest h)

pub filter_among : {X : Type 0} (p : X → Bool) (xs : List X) (x : X) → Among (filter p xs) x → Among xs x
filter_among p [] x h = absurd h
filter_among p (y ∷ ys) x h = before_one y (filter p ys) ys x (p y) (filter_among p ys x) h

kept_first : {X : Type 0} (y : X) (kept : List X) (x : X) (b : Bool) → b ≡ true → y ≡ x → Among (cond b (y ∷ kept) kept) x
kept_first y kept x true passes is = inl is
kept_first y kept x false passes is = absurd cc

kept_later : {X : Type 0} (y : X) (kept : List X) (x : X) (b : Bool) → Among kept x → Among (cond b (y ∷ kept) kept) x
kept_later y kept x true there = inr there
kept_later y kept x false there = there

pub among_filter : {X : Type 0} (p : X → Bool) (xs : List X) (x : X) → Among xs x → p x ≡ true → Among (filter p xs) x
among_filter p [] x h passes = absurd h
among_filter p (y ∷ ys) x (inl is) passes = kept_first y (filter p ys) x (p y) (ap p is ∙ passes) is
among_filter p (y ∷ ys) x (inr there) passes = kept_later y (filter p ys) x (p y) (among_filter p ys x there passes)

-- of the values at the elements
pub among_map : {X Y : Type 0} (f : X → Y) (xs : List X) (x : X) → Among xs x → Among (map f xs) (f x)
among_map f [] x h = absurd h
among_map f (z ∷ xs) x (inl is) = inl (ap f is)
among_map f (z ∷ xs) x (inr there) = inr (among_map f xs x there)

pub map_among : {X Y : Type 0} (f : X → Y) (xs : List X) (y : Y) → Among (map f xs) y → (x : X) × Among xs x × (f x ≡ y)
map_among f [] y h = absurd h
map_among f (x ∷ xs) y (inl is) = (x, inl refl, is)
map_among f (x ∷ xs) y (inr there) = let from = map_among f xs y there in (from.0, inr from.1, from.2)

-- of the values where there are any
present_one : {X Y : Type 0} (h : X → Option Y) (x : X) (xs : List X) (y : Y) (o : Option Y) → h x ≡ o → (Among (filter_map h xs) y → (z : X) × Among xs z × (h z ≡ Some y))
    → Among (cons_option o (filter_map h xs)) y → (z : X) × Among (x ∷ xs) z × (h z ≡ Some y)
present_one h x xs y None is rest there = let from = rest there in (from.0, inr from.1, from.2)
present_one h x xs y (Some v) is rest (inl here) = (x, inl refl, is ∙ ap (λ (w : _). Some w) here)
present_one h x xs y (Some v) is rest (inr there) = let from = rest there in (from.0, inr from.1, from.2)

pub filter_map_among : {X Y : Type 0} (h : X → Option Y) (xs : List X) (y : Y) → Among (filter_map h xs) y → (x : X) × Among xs x × (h x ≡ Some y)
filter_map_among h [] y there = absurd there
filter_map_among h (x ∷ xs) y there = present_one h x xs y (h x) refl (filter_map_among h xs y) there

present_first : {Y : Type 0} (o : Option Y) (ys : List Y) (y : Y) → o ≡ Some y → Among (cons_option o ys) y
present_first None ys y is = absurd cc
present_first (Some v) ys y is = inl (same_Some v y is)

present_later : {Y : Type 0} (o : Option Y) (ys : List Y) (y : Y) → Among ys y → Among (cons_option o ys) y
present_later None ys y there = there
present_later (Some v) ys y there = inr there

pub among_filter_map : {X Y : Type 0} (h : X → Option Y) (xs : List X) (x : X) (y : Y) → Among xs x → h x ≡ Some y → Among (filter_map h xs) y
among_filter_map h [] x y there is = absurd there
among_filter_map h (z ∷ xs) x y (inl here) is = present_first (h z) (filter_map h xs) y (ap h here ∙ is)
among_filter_map h (z ∷ xs) x y (inr there) is = present_later (h z) (filter_map h xs) y (among_filter_map h xs x y there is)

-- of the lists made of the elements, end to end
pub among_flat_map : {X Y : Type 0} (f : X → List Y) (xs : List X) (x : X) (y : Y) → Among xs x → Among (f x) y → Among (flat_map f xs) y
among_flat_map f [] x y there has = absurd there
among_flat_map f (z ∷ xs) x y (inl is) has = among_left (f z) (flat_map f xs) y (subst (λ (w : _). Among (f w) y) (sym is) has)
among_flat_map f (z ∷ xs) x y (inr there) has = among_right (f z) (flat_map f xs) y (among_flat_map f xs x y there has)

pub flat_map_among : {X Y : Type 0} (f : X → List Y) (xs : List X) (y : Y) → Among (flat_map f xs) y → (x : X) × Among xs x × Among (f x) y
flat_map_among f [] y there = absurd there
flat_map_among f (z ∷ xs) y there = elim (among_either (f z) (flat_map f xs) y there) [
  | inl here ↦ (z, inl refl, here)
  | inr later ↦ (let from = flat_map_among f xs y later in (from.0, inr from.1, from.2))
]

-- at an index
pub among_index : {X : Type 0} (xs : List X) (i : ℕ) (d : X) → i < length xs → Among xs (get_or xs i d)
among_index xs i d below = among_contained xs (get_or xs i d) (i, below, get_or_default xs i (get_or xs i d) d below)

-- of no elements
pub among_nothing : {X : Type 0} (xs : List X) (x : X) → length xs ≡ 0 → Among xs x → ⊥
among_nothing [] x none there = there
among_nothing (y ∷ xs) x none there = omega arith

-- ---- the same of std's membership

pub contains_nothing : {X P : Type 0} (x : X) → Contains [] x → P
contains_nothing x (k, below, is) = absurd (omega arith)

pub contains_first : {X : Type 0} (x : X) (xs : List X) → Contains (x ∷ xs) x
contains_first x xs = Contains-append_left (x ∷ []) xs x (Contains-push [] x)

pub contains_cases : {X : Type 0} (x : X) (xs : List X) (y : X) → Contains (x ∷ xs) y → (x ≡ y) ⊎ Contains xs y
contains_cases x xs y h = ⊎_elim (λ one. ⊎_elim (contains_nothing y) inl (Contains-push_cases [] x y one)) inr (Contains-append_cases (x ∷ []) xs y h)

pub contains_map : {X Y : Type 0} (f : X → Y) (xs : List X) (x : X) → Contains xs x → Contains (map f xs) (f x)
contains_map f xs x there = contains_among (map f xs) (f x) (among_map f xs x (among_contained xs x there))

pub contains_flat_map : {X Y : Type 0} (f : X → List Y) (xs : List X) (x : X) (y : Y) → Contains xs x → Contains (f x) y → Contains (flat_map f xs) y
contains_flat_map f xs x y there has = contains_among (flat_map f xs) y (among_flat_map f xs x y (among_contained xs x there) (among_contained (f x) y has))
