-- Powers of ten that cancel in a length, and those that leave nothing of it.
use Rattle.std.proofs.Common.{◌≡◌, ◌≢◌, ℕ, ◌+◌, ◌-◌, ◌*◌, ◌/◌, ◌^◌, ◌<◌, ◌≤◌, Bool, true, false, if◌then◌else◌, Some, None, arith, refl, ap, ◌∙◌}
use Rattle.std.specs.Prelude.{nat_le}
use Rattle.std.proofs.Math.Nat.{one-le-pow, mul-le-mul_right, le_of_mul-le-mul_right, mul-div-mul_left, mul-div_cancel, div-eq_of_lt}
use Rattle.std.proofs.lemmas.Nat.{pow-add}
use Rattle.std.proofs.lemmas.Bool.{le-leb, ne_eqb}
use Rattle.std.proofs.lemmas.Bool.Decides.{nat_tests}
use Rattle.cim_words.specs.Length.{millimetres}

-- a power of ten is above zero
pub power_pos : (power : ℕ) → 0 < 10 ^ power
power_pos power =
    let ten : 0 < 10 = omega arith in
    one-le-pow power 10 ten

same_from : (a b c d : ℕ) → (a ≤ b → c ≤ d) → (c ≤ d → a ≤ b) → nat_le a b ≡ nat_le c d
same_from a b c d there back = grind (arith, nat_tests)

-- a common factor changes no comparison
same_test : (a b factor : ℕ) → 0 < factor → nat_le (a * factor) (b * factor) ≡ nat_le a b
same_test a b factor some =
    same_from (a * factor) (b * factor) a b (λ less. le_of_mul-le-mul_right less some) (λ less. mul-le-mul_right factor less)

-- a length that is multiplied, once the powers have cancelled
multiplied_at : (number power divisor : ℕ) → 0 < divisor
    → (if nat_le (number * power) 1000000000 then Some (number * power * 1000) else None)
    ≡ (if nat_le (number * (divisor * power)) (1000000000 * divisor) then Some (number * (divisor * power * 1000) / divisor) else None)
multiplied_at number power divisor some =
    let product : number * (divisor * power) ≡ number * power * divisor = omega arith in
    let thousand : number * (divisor * power * 1000) ≡ number * power * 1000 * divisor = omega arith in
    rw (product, thousand, same_test (number * power) 1000000000 divisor some, mul-div_cancel (number * power * 1000) some) refl

-- a length that is divided, once the powers have cancelled
divided_at : (number power factor : ℕ) → 0 < factor
    → (if nat_le number (1000000000 * power) then Some (number * 1000 / power) else None)
    ≡ (if nat_le (number * factor) (1000000000 * (factor * power)) then Some (number * (factor * 1000) / (factor * power)) else None)
divided_at number power factor some =
    let bound : 1000000000 * (factor * power) ≡ 1000000000 * power * factor = omega arith in
    let thousand : number * (factor * 1000) ≡ factor * (number * 1000) = omega arith in
    rw (bound, thousand, same_test number (1000000000 * power) factor some, mul-div-mul_left (number * 1000) power some) refl

-- no metres are no millimetres, and fewer are no length
pub millimetres_none : (negative : Bool) (number up down : ℕ) → number ≡ 0 → Some 0 ≡ millimetres negative number up down
unfolding millimetres
millimetres_none negative number up down none = rw none refl

pub millimetres_negative : (negative : Bool) (number up down : ℕ) → number ≢ 0 → negative ≡ true → None ≡ millimetres negative number up down
unfolding millimetres
millimetres_negative negative number up down some is_negative = rw (ne_eqb number 0 some, is_negative) refl

-- what is left of both powers multiplies
pub millimetres_multiplied : (negative : Bool) (number up down : ℕ) → number ≢ 0 → negative ≡ false → down ≤ up
    → (if nat_le (number * 10 ^ (up - down)) 1000000000 then Some (number * 10 ^ (up - down) * 1000) else None) ≡ millimetres negative number up down
unfolding millimetres
millimetres_multiplied negative number up down some positive more =
    let whole : up ≡ down + (up - down) = omega arith in
    let power : 10 ^ up ≡ 10 ^ down * 10 ^ (up - down) = ap (λ (n : ℕ). 10 ^ n) whole ∙ pow-add 10 down (up - down) in
    let thousand : 10 ^ (up + 3) ≡ 10 ^ down * 10 ^ (up - down) * 1000 = pow-add 10 up 3 ∙ ap (λ (n : ℕ). n * 1000) power in
    rw (ne_eqb number 0 some, positive, thousand, power) (multiplied_at number (10 ^ (up - down)) (10 ^ down) (power_pos down))

-- what is left of both powers divides
pub millimetres_divided : (negative : Bool) (number up down : ℕ) → number ≢ 0 → negative ≡ false → up < down
    → (if nat_le number (1000000000 * 10 ^ (down - up)) then Some (number * 1000 / 10 ^ (down - up)) else None) ≡ millimetres negative number up down
unfolding millimetres
millimetres_divided negative number up down some positive less =
    let whole : down ≡ up + (down - up) = omega arith in
    let power : 10 ^ down ≡ 10 ^ up * 10 ^ (down - up) = ap (λ (n : ℕ). 10 ^ n) whole ∙ pow-add 10 up (down - up) in
    let thousand : 10 ^ (up + 3) ≡ 10 ^ up * 1000 = pow-add 10 up 3 in
    rw (ne_eqb number 0 some, positive, thousand, power) (divided_at number (10 ^ (down - up)) (10 ^ up) (power_pos up))

-- a divisor that does not fit leaves nothing
pub divided_none : (number divisor : ℕ) → number < 10 ^ 30 → (divisor < 2 ^ 128 → ⊥)
    → Some 0 ≡ (if nat_le number (1000000000 * divisor) then Some (number * 1000 / divisor) else None)
divided_none number divisor small great =
    let above : 2 ^ 128 ≤ divisor = omega (arith, great) in
    let within : nat_le number (1000000000 * divisor) ≡ true = le-leb number (1000000000 * divisor) (omega arith) in
    let below : number * 1000 < divisor = omega arith in
    rw (within, div-eq_of_lt below) refl
