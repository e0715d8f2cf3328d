-- Positions that ascend by switch, pair by pair.
use Rattle.std.proofs.Common.{◌≡◌, ℕ, ◌+◌, ◌-◌, ◌<◌, ◌≤◌, List, map, length, get_or, Bool, true, false, nat_lt, refl, ap, subst, arith}
use Rattle.std.specs.List.Sorted.{IsStrictlyIncreasing}
use Rattle.std.proofs.lemmas.Bool.Decides.{nat_tests}
use Rattle.std.proofs.lemmas.List.{get_or-map, get_or_default, length-map}
use Rattle.room_words.specs.Overlay.{position_number}
use Rattle.room_words.specs.declared.overlay.Position.{Position}

none : Position
none = record { switch = record { number = 0 }; is_open = false }

-- the first of them ascend
abbrev pub Climbs : List Position → ℕ → Type 0
Climbs xs n = (k : ℕ) (d : Position) → k + 1 < n → k + 1 < length xs → position_number (get_or xs k d) < position_number (get_or xs (k + 1) d)

pub climbs_one : (xs : List Position) → Climbs xs 1
climbs_one xs k d less below = absurd (omega arith)

alike : (xs : List Position) (k : ℕ) (d e : Position) → k < length xs → position_number (get_or xs k d) ≡ position_number (get_or xs k e)
alike xs k d e below = ap position_number (get_or_default xs k d e below)

climbs_if : (xs : List Position) (n k : ℕ) (d e : Position) (b : Bool) → nat_lt (k + 1) n ≡ b → Climbs xs n → k + 1 < n + 1 → k + 1 < length xs → position_number (get_or xs (n - 1) e) < position_number (get_or xs n e)
    → position_number (get_or xs k d) < position_number (get_or xs (k + 1) d)
climbs_if xs n k d e true is climbs less below next = climbs k d (under (k + 1) n is) below
  where
    under : (m n : ℕ) → nat_lt m n ≡ true → m < n
    under m n is = grind (arith, nat_tests)
climbs_if xs n k d e false is climbs less below next =
    let last : n ≡ k + 1 = over (k + 1) n is less in
    let before : n - 1 ≡ k = omega (arith, last) in
    let low = alike xs k d e (omega arith) in
    let high = alike xs (k + 1) d e below in
    let there : position_number (get_or xs k e) < position_number (get_or xs n e) = subst (λ (j : ℕ). position_number (get_or xs j e) < position_number (get_or xs n e)) before next in
    let here : position_number (get_or xs k e) < position_number (get_or xs (k + 1) e) = subst (λ (j : ℕ). position_number (get_or xs k e) < position_number (get_or xs j e)) last there in
    omega (arith, low, high, here)
  where
    over : (m n : ℕ) → nat_lt m n ≡ false → m < n + 1 → n ≡ m
    over m n is less = grind (arith, nat_tests)

pub climbs_next : (xs : List Position) (n : ℕ) (e : Position) → Climbs xs n → position_number (get_or xs (n - 1) e) < position_number (get_or xs n e) → Climbs xs (n + 1)
climbs_next xs n e climbs next k d less below = climbs_if xs n k d e (nat_lt (k + 1) n) refl climbs less below next

number_at : (xs : List Position) (k : ℕ) (e : Position) → k < length xs → get_or (map position_number xs) k 0 ≡ position_number (get_or xs k e)
number_at xs k e below = get_or-map position_number xs k e 0 below

pub climbs_all : (xs : List Position) (n : ℕ) → Climbs xs n → length xs ≤ n → IsStrictlyIncreasing (map position_number xs)
climbs_all xs n climbs all k below =
    let long = length-map xs position_number in
    let inside : k + 1 < length xs = omega (arith, long, below) in
    let low = number_at xs k none (omega arith) in
    let high = number_at xs (k + 1) none inside in
    let here = climbs k none (omega arith) inside in
    omega (arith, low, high, here)

pub falls : (xs : List Position) (n : ℕ) (e : Position) → 1 ≤ n → n < length xs → position_number (get_or xs n e) ≤ position_number (get_or xs (n - 1) e) → IsStrictlyIncreasing (map position_number xs) → ⊥
falls xs n e some inside down up =
    let long = length-map xs position_number in
    let low = number_at xs (n - 1) e (omega arith) in
    let high = number_at xs n e inside in
    let here = up (n - 1) (omega (arith, long)) in
    let next : n - 1 + 1 ≡ n = omega arith in
    let step : get_or (map position_number xs) (n - 1) 0 < get_or (map position_number xs) n 0 = subst (λ (j : ℕ). get_or (map position_number xs) (n - 1) 0 < get_or (map position_number xs) j 0) next here in
    omega (arith, low, high, step)
