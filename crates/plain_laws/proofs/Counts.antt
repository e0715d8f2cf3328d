-- Counts by two tests that hardly differ.
use Rattle.std.proofs.Common.{◌≡◌, ℕ, zero, suc, ◌+◌, ◌<◌, ◌≤◌, List, [], ◌∷◌, length, get_or, Bool, true, false, cond, refl, sym, ap, ◌∙◌, arith}
use Rattle.std.specs.List.{All, count_by}
use Rattle.std.proofs.lemmas.List.Elements.{All-head, All-tail}
use Rattle.std.proofs.lemmas.List.Sums.{sum_by-cons}

count_cons : {X : Type 0} (p : X → Bool) (x : X) (xs : List X) → count_by p (x ∷ xs) ≡ cond (p x) 1 0 + count_by p xs
count_cons {X} p x xs = sum_by-cons (λ (y : X). cond (p y) 1 0) x xs

count_yes : {X : Type 0} (p : X → Bool) (x : X) (xs : List X) → p x ≡ true → count_by p (x ∷ xs) ≡ 1 + count_by p xs
count_yes p x xs e = count_cons p x xs ∙ ap (λ (b : Bool). cond b 1 0 + count_by p xs) e

count_no : {X : Type 0} (p : X → Bool) (x : X) (xs : List X) → p x ≡ false → count_by p (x ∷ xs) ≡ 0 + count_by p xs
count_no p x xs e = count_cons p x xs ∙ ap (λ (b : Bool). cond b 1 0 + count_by p xs) e

-- tests that agree on a list count alike
pub count_alike : {X : Type 0} (p q : X → Bool) (xs : List X) → All (λ x. p x ≡ q x) xs → count_by p xs ≡ count_by q xs
count_alike p q [] same = refl
count_alike {X} p q (x ∷ xs) same =
    count_cons p x xs
    ∙ ap (λ (b : Bool). cond b 1 0 + count_by p xs) (All-head (λ (y : X). p y ≡ q y) x xs same)
    ∙ ap (λ (n : ℕ). cond (q x) 1 0 + n) (count_alike p q xs (All-tail (λ (y : X). p y ≡ q y) x xs same))
    ∙ sym (count_cons q x xs)

-- where one test passes what the other passes, and one item more, it counts one more
pub count_one_more : {X : Type 0} (p q : X → Bool) (xs : List X) (i : ℕ) → i < length xs
    → ((d : X) → p (get_or xs i d) ≡ false) → ((d : X) → q (get_or xs i d) ≡ true)
    → ((j : ℕ) (d : X) → j < length xs → (j ≡ i → ⊥) → p (get_or xs j d) ≡ q (get_or xs j d)) → count_by q xs ≡ count_by p xs + 1
count_one_more p q [] i within fails passes others = absurd (omega arith)
count_one_more p q (x ∷ xs) zero within fails passes others =
    let alike : count_by p xs ≡ count_by q xs = count_alike p q xs (λ k d below. others (suc k) d (omega arith) (λ h. omega arith)) in
    let less : count_by p (x ∷ xs) ≡ 0 + count_by p xs = count_no p x xs (fails x) in
    let more : count_by q (x ∷ xs) ≡ 1 + count_by q xs = count_yes q x xs (passes x) in
    omega arith
count_one_more p q (x ∷ xs) (suc i) within fails passes others =
    let rest : count_by q xs ≡ count_by p xs + 1 = count_one_more p q xs i (omega arith) fails passes (λ j d below other. others (suc j) d (omega arith) (λ h. other (omega arith))) in
    let first : p x ≡ q x = others 0 x (omega arith) (λ h. omega arith) in
    let here : cond {A = ℕ} (p x) 1 0 ≡ cond {A = ℕ} (q x) 1 0 = ap (λ (b : Bool). cond b 1 0) first in
    let less : count_by p (x ∷ xs) ≡ cond (p x) 1 0 + count_by p xs = count_cons p x xs in
    let more : count_by q (x ∷ xs) ≡ cond (q x) 1 0 + count_by q xs = count_cons q x xs in
    omega arith

one_at_most : (a b : Bool) → (a ≡ true → b ≡ true) → cond a 1 0 ≤ cond b 1 0
one_at_most false b implies = omega arith
one_at_most true b implies = let e : b ≡ true = implies refl in rw e (omega arith)

-- where one test passes all that the other passes, it counts no fewer
pub count_at_most : {X : Type 0} (p q : X → Bool) (xs : List X) → All (λ x. p x ≡ true → q x ≡ true) xs → count_by p xs ≤ count_by q xs
count_at_most p q [] wider = omega arith
count_at_most {X} p q (x ∷ xs) wider =
    let rest : count_by p xs ≤ count_by q xs = count_at_most p q xs (All-tail (λ (y : X). p y ≡ true → q y ≡ true) x xs wider) in
    let here : cond {A = ℕ} (p x) 1 0 ≤ cond {A = ℕ} (q x) 1 0 = one_at_most (p x) (q x) (All-head (λ (y : X). p y ≡ true → q y ≡ true) x xs wider) in
    let less : count_by p (x ∷ xs) ≡ cond (p x) 1 0 + count_by p xs = count_cons p x xs in
    let more : count_by q (x ∷ xs) ≡ cond (q x) 1 0 + count_by q xs = count_cons q x xs in
    omega arith

-- and more, where it passes an item that the other does not
pub count_fewer : {X : Type 0} (p q : X → Bool) (xs : List X) → All (λ x. p x ≡ true → q x ≡ true) xs → (i : ℕ) → i < length xs
    → ((d : X) → p (get_or xs i d) ≡ false) → ((d : X) → q (get_or xs i d) ≡ true) → count_by p xs < count_by q xs
count_fewer p q [] wider i within fails passes = absurd (omega arith)
count_fewer {X} p q (x ∷ xs) wider zero within fails passes =
    let rest : count_by p xs ≤ count_by q xs = count_at_most p q xs (All-tail (λ (y : X). p y ≡ true → q y ≡ true) x xs wider) in
    let less : count_by p (x ∷ xs) ≡ 0 + count_by p xs = count_no p x xs (fails x) in
    let more : count_by q (x ∷ xs) ≡ 1 + count_by q xs = count_yes q x xs (passes x) in
    omega arith
count_fewer {X} p q (x ∷ xs) wider (suc i) within fails passes =
    let rest : count_by p xs < count_by q xs = count_fewer p q xs (All-tail (λ (y : X). p y ≡ true → q y ≡ true) x xs wider) i (omega arith) fails passes in
    let here : cond {A = ℕ} (p x) 1 0 ≤ cond {A = ℕ} (q x) 1 0 = one_at_most (p x) (q x) (All-head (λ (y : X). p y ≡ true → q y ≡ true) x xs wider) in
    let less : count_by p (x ∷ xs) ≡ cond (p x) 1 0 + count_by p xs = count_cons p x xs in
    let more : count_by q (x ∷ xs) ≡ cond (q x) 1 0 + count_by q xs = count_cons q x xs in
    omega arith

-- a test that nothing passes counts nothing
pub count_none : {X : Type 0} (p : X → Bool) (xs : List X) → All (λ x. p x ≡ false) xs → count_by p xs ≡ 0
count_none p [] fails = refl
count_none {X} p (x ∷ xs) fails =
    let rest : count_by p xs ≡ 0 = count_none p xs (All-tail (λ (y : X). p y ≡ false) x xs fails) in
    let same : count_by p (x ∷ xs) ≡ 0 + count_by p xs = count_no p x xs (All-head (λ (y : X). p y ≡ false) x xs fails) in
    omega arith
