-- The mark with the least identifier, taken one after another.
use Rattle.std.proofs.Common.{◌≡◌, ℕ, ◌≤◌, List, [], ◌∷◌, Bool, true, false, ◌&&◌, cond, nat_le, Option, Some, None, find, fold, refl, ap, sym, ◌∙◌, arith}
use Rattle.std.specs.List.{list_all}
use Rattle.std.proofs.lemmas.Bool.Decides.{nat_tests}
use Rattle.cim_model.specs.Refusals.{least}
use Rattle.segment_cuts.specs.declared.mark.Mark.{Mark}
use Rattle.switching.specs.Parts.{lesser}

abbrev number : Mark → ℕ
number one = one.id.number

-- the better of two, and the best of one and some others
abbrev better : Mark → Mark → Mark
better a x = cond (nat_le (number a) (number x)) a x

abbrev best : Mark → List Mark → Mark
best a [] = a
best a (x ∷ xs) = best (better a x) xs

-- ---- the best is what is kept

kept : (a x : Mark) (b : Bool) → cond b (Some a) (Some x) ≡ Some (cond b a x)
kept a x true = refl
kept a x false = refl

folded : (a : Mark) (xs : List Mark) → fold lesser (Some a) xs ≡ Some (best a xs)
folded a [] = refl
folded a (x ∷ xs) = ap (λ (o : Option Mark). fold lesser o xs) (kept a x (nat_le (number a) (number x))) ∙ folded (better a x) xs

-- ---- what is up to all is up to the best

up_to_both : (n a x : ℕ) (b : Bool) → nat_le a x ≡ b → (nat_le n a && nat_le n x) ≡ nat_le n (cond b a x)
up_to_both n a x true is = grind (arith, nat_tests)
up_to_both n a x false is = grind (arith, nat_tests)

number_of_cond : (a x : Mark) (b : Bool) → number (cond b a x) ≡ cond b (number a) (number x)
number_of_cond a x true = refl
number_of_cond a x false = refl

up_to_better : (n : ℕ) (a x : Mark) → (nat_le n (number a) && nat_le n (number x)) ≡ nat_le n (number (better a x))
up_to_better n a x =
    up_to_both n (number a) (number x) (nat_le (number a) (number x)) refl
    ∙ ap (λ (k : ℕ). nat_le n k) (sym (number_of_cond a x (nat_le (number a) (number x))))

no_more : (b : Bool) → (b && true) ≡ b
no_more true = refl
no_more false = refl

first_two : (a b c : Bool) → (a && (b && c)) ≡ ((a && b) && c)
first_two true b c = refl
first_two false b c = refl

up_to_best : (n : ℕ) (a : Mark) (xs : List Mark) → (nat_le n (number a) && list_all (λ (other : Mark). nat_le n (number other)) xs) ≡ nat_le n (number (best a xs))
up_to_best n a [] = no_more (nat_le n (number a))
up_to_best n a (x ∷ xs) =
    first_two (nat_le n (number a)) (nat_le n (number x)) (list_all (λ (other : Mark). nat_le n (number other)) xs)
    ∙ ap (λ (b : Bool). b && list_all (λ (other : Mark). nat_le n (number other)) xs) (up_to_better n a x)
    ∙ up_to_best n (better a x) xs

-- ---- the best is the first of its number

low_better : (a x : Mark) (b : Bool) → nat_le (number a) (number x) ≡ b → (number (cond b a x) ≤ number a) × (number (cond b a x) ≤ number x)
low_better a x true is = (omega arith, at_most (number a) (number x) is)
  where
    at_most : (m n : ℕ) → nat_le m n ≡ true → m ≤ n
    at_most m n is = grind (arith, nat_tests)
low_better a x false is = (over (number a) (number x) is, omega arith)
  where
    over : (m n : ℕ) → nat_le m n ≡ false → n ≤ m
    over m n is = grind (arith, nat_tests)

low : (a : Mark) (xs : List Mark) → number (best a xs) ≤ number a
low a [] = omega arith
low a (x ∷ xs) =
    let first = low (better a x) xs in
    let both = low_better a x (nat_le (number a) (number x)) refl in
    omega (arith, first, both)

-- one more after the first, which is kept
behind_kept : (n : ℕ) (a x : Mark) (rest : Option Mark) (b : Bool) → nat_le (number a) n ≡ b → nat_le (number a) (number x) ≡ true
    → cond b (Some a) (cond (nat_le (number x) n) (Some x) rest) ≡ cond b (Some a) rest
behind_kept n a x rest true is first = refl
behind_kept n a x rest false is first = ap (λ (b : Bool). cond b (Some x) rest) (above n (number a) (number x) is first)
  where
    above : (n a x : ℕ) → nat_le a n ≡ false → nat_le a x ≡ true → nat_le x n ≡ false
    above n a x is first = grind (arith, nat_tests)

found_step : (a x : Mark) (xs : List Mark) (b : Bool) → nat_le (number a) (number x) ≡ b
    → find (λ (one : Mark). nat_le (number one) (number (best (cond b a x) xs))) (cond b a x ∷ xs) ≡ Some (best (cond b a x) xs)
    → find (λ (one : Mark). nat_le (number one) (number (best (cond b a x) xs))) (a ∷ x ∷ xs) ≡ Some (best (cond b a x) xs)
found_step a x xs true is rest =
    let n = number (best a xs) in
    behind_kept n a x (find (λ (one : Mark). nat_le (number one) n) xs) (nat_le (number a) n) refl is ∙ rest
found_step a x xs false is rest =
    let n = number (best x xs) in
    ap (λ (b : Bool). cond b (Some a) (find (λ (one : Mark). nat_le (number one) n) (x ∷ xs))) (above n (number a) (number x) (low x xs) is) ∙ rest
  where
    above : (n a x : ℕ) → n ≤ x → nat_le a x ≡ false → nat_le a n ≡ false
    above n a x low is = grind (arith, nat_tests)

found : (a : Mark) (xs : List Mark) → find (λ (one : Mark). nat_le (number one) (number (best a xs))) (a ∷ xs) ≡ Some (best a xs)
found a [] = ap (λ (b : Bool). cond b (Some a) None) (itself (number a))
  where
    itself : (n : ℕ) → nat_le n n ≡ true
    itself n = grind (arith, nat_tests)
found a (x ∷ xs) = found_step a x xs (nat_le (number a) (number x)) refl (found (better a x) xs)

-- ---- the least of a list

same_find : {X : Type 0} (p q : X → Bool) → ((x : X) → p x ≡ q x) → (xs : List X) → find p xs ≡ find q xs
same_find p q same [] = refl
same_find p q same (x ∷ xs) = ap (λ (b : Bool). cond b (Some x) (find p xs)) (same x) ∙ ap (λ (rest : Option _). cond (q x) (Some x) rest) (same_find p q same xs)

pub least_folded : (xs : List Mark) → fold lesser None xs ≡ least xs
least_folded [] = refl
least_folded (a ∷ xs) =
    folded a xs ∙ sym (found a xs)
    ∙ sym (same_find (λ (one : Mark). list_all (λ (other : Mark). nat_le (number one) (number other)) (a ∷ xs)) (λ (one : Mark). nat_le (number one) (number (best a xs))) (λ (one : Mark). up_to_best (number one) a xs) (a ∷ xs))
