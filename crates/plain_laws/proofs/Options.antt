-- What may be missing, and the first of a list that passes a test. More of these laws stand in the standard library, in Option.
use Rattle.std.proofs.Common.{◌≡◌, ℕ, ◌+◌, inl, inr, List, [], ◌∷◌, length, Bool, true, false, not, cond, nat_lt, Option, Some, None, IsTrue, IfSome, is_none, is_some, option_map, find, position, if◌then◌else◌, refl, ap, ap₂, ◌∙◌, subst}
use Rattle.std.specs.List.{position_from, position_or_len}
use Rattle.std.proofs.lemmas.Option.{same_Some}
use Rattle.std.specs.Prelude.{Contains}
use Rattle.plain_laws.proofs.Members.{Among, contains_among}
use Rattle.plain_laws.proofs.Truth.{never_both}

pub some_none : {X : Type 0} (x : X) → ◌≡◌ {A = Option X} (Some x) None → ⊥
some_none x is = cc

pub none_from_test : {X : Type 0} (o : Option X) → IsTrue (is_none o) → o ≡ None
none_from_test None is = refl
none_from_test (Some x) is = absurd cc

pub if_some : {X : Type 0} (P : X → Type 0) (found : Option X) (x : X) → found ≡ Some x → IfSome found P → P x
if_some P None x is holds = absurd cc
if_some P (Some y) x is holds = subst P (same_Some y x is) holds

-- what is said under a condition alone
pub if_then_some : {X : Type 0} (b : Bool) (o : Option X) (x : X) → (if b then o else None) ≡ Some x → (b ≡ true) × (o ≡ Some x)
if_then_some true o x is = (refl, is)
if_then_some false o x is = absurd cc

-- ---- the first that passes a test

found_one : {X : Type 0} (p : X → Bool) (y x : X) (ys : List X) (b : Bool) → p y ≡ b → (find p ys ≡ Some x → Among ys x × (p x ≡ true)) → cond b (Some y) (find p ys) ≡ Some x
    → Among (y ∷ ys) x × (p x ≡ true)
found_one p y x ys true is rest h = let here : y ≡ x = same_Some y x h in (inl here, subst (λ (z : _). p z ≡ true) here is)
found_one p y x ys false is rest h = let there = rest h in (inr there.0, there.1)

-- it is in the list, and passes
pub find_among : {X : Type 0} (p : X → Bool) (xs : List X) (x : X) → find p xs ≡ Some x → Among xs x × (p x ≡ true)
find_among p [] x h = absurd cc
find_among p (y ∷ ys) x h = found_one p y x ys (p y) refl (find_among p ys x) h

pub find_contains : {X : Type 0} (p : X → Bool) (xs : List X) (x : X) → find p xs ≡ Some x → Contains xs x
find_contains p xs x found = contains_among xs x (find_among p xs x found).0

-- nothing is chosen where neither the first nor anything of the rest is
pub cond_none : {X : Type 0} (b : Bool) (y : X) (rest : Option X) → cond b (Some y) rest ≡ None → (b ≡ false) × (rest ≡ None)
cond_none true y rest none = absurd cc
cond_none false y rest none = (refl, none)

-- where one passes, one is found
pub among_find : {X : Type 0} (p : X → Bool) (xs : List X) (x : X) → Among xs x → p x ≡ true → find p xs ≡ None → ⊥
among_find p [] x there passes none = there
among_find p (y ∷ xs) x (inl is) passes none = never_both (p y) (ap p is ∙ passes) (cond_none (p y) y (find p xs) none).0
among_find p (y ∷ xs) x (inr there) passes none = among_find p xs x there passes (cond_none (p y) y (find p xs) none).1

first_same : {X : Type 0} (f h : X → Bool) → ((x : X) → f x ≡ h x) → (xs : List X) → position_or_len f xs ≡ position_or_len h xs
first_same f h agree [] = refl
first_same f h agree (x ∷ xs) = ap₂ (λ (b : Bool) (n : ℕ). cond (not b) (1 + n) 0) (agree x) (first_same f h agree xs)

-- tests that agree find the first at one index
pub position_same : {X : Type 0} (f h : X → Bool) → ((x : X) → f x ≡ h x) → (xs : List X) → position f xs ≡ position h xs
position_same f h agree xs = ap (λ (n : ℕ). cond (nat_lt n (length xs)) (Some n) None) (first_same f h agree xs)

-- where nothing is found, no element passes
first_fails : {X : Type 0} (y : X) (rest : Option X) (b : Bool) → cond b (Some y) rest ≡ None → (b ≡ false) × (rest ≡ None)
first_fails y rest true none = absurd cc
first_fails y rest false none = (refl, none)

pub find_none : {X : Type 0} (p : X → Bool) (xs : List X) (x : X) → find p xs ≡ None → Among xs x → p x ≡ false
find_none p [] x none there = absurd there
find_none p (y ∷ xs) x none (inl is) = subst (λ (z : _). p z ≡ false) is (first_fails y (find p xs) (p y) none).0
find_none p (y ∷ xs) x none (inr there) = find_none p xs x (first_fails y (find p xs) (p y) none).1 there

first_index_fails : (k : ℕ) (rest : Option ℕ) (b : Bool) → cond b (Some k) rest ≡ None → (b ≡ false) × (rest ≡ None)
first_index_fails k rest true none = absurd cc
first_index_fails k rest false none = (refl, none)

pub position_none : {X : Type 0} (p : X → Bool) (k : ℕ) (xs : List X) (x : X) → position_from p k xs ≡ None → Among xs x → p x ≡ false
position_none p k [] x none there = absurd there
position_none p k (y ∷ xs) x none (inl is) = subst (λ (z : _). p z ≡ false) is (first_index_fails k (position_from p (k + 1) xs) (p y) none).0
position_none p k (y ∷ xs) x none (inr there) = position_none p (k + 1) xs x (first_index_fails k (position_from p (k + 1) xs) (p y) none).1 there

-- what holds where there is something
pub if_some_follows : {X : Type 0} (P Q : X → Type 0) (found : Option X) → ((x : X) → P x → Q x) → IfSome found P → IfSome found Q
if_some_follows P Q None follows is = tt
if_some_follows P Q (Some x) follows is = follows x is

pub if_some_always : {X : Type 0} (P : X → Type 0) (found : Option X) → ((x : X) → P x) → IfSome found P
if_some_always P None always = tt
if_some_always P (Some x) always = always x

pub none_from_false : {X : Type 0} (found : Option X) → is_some found ≡ false → found ≡ None
none_from_false None is = refl
none_from_false (Some x) is = absurd cc

pub map_none : {X Y : Type 0} (f : X → Y) (found : Option X) → option_map f found ≡ None → found ≡ None
map_none f None none = refl
map_none f (Some x) none = absurd cc
