-- The numbers that digits spell, and how large they are.
use Rattle.std.proofs.Common.{◌≡◌, ℕ, suc, ◌+◌, ◌-◌, ◌*◌, ◌^◌, ◌<◌, ◌≤◌, List, [], ◌∷◌, ◌++◌, true, length, get_or, drop, arith, refl, drop-cons}
use Rattle.std.proofs.Math.Nat.{pow-le-pow_right, pow-suc, mul-le-mul_right}
use Rattle.std.proofs.lemmas.Bool.{and_parts}
use Rattle.std.proofs.lemmas.Bool.Decides.{nat_tests}
use Rattle.std.specs.List.{list_all}
use Rattle.cim_words.specs.Values.{is_digit, number_from, number_of}

-- more digits make no smaller number
pub number_from-le : (before : ℕ) (digits : List ℕ) → before ≤ number_from before digits
number_from-le before [] = omega arith
number_from-le before (digit ∷ digits) = omega (arith, number_from-le (before * 10 + (digit - 48)) digits)

-- the number so far and the next digit are no larger than the whole number
pub number_from_more : (number : ℕ) (digits : List ℕ) (i : ℕ) → i < length digits
    → number * 10 + (get_or digits i 0 - 48) ≤ number_from number (drop i digits)
number_from_more number digits i within =
    rw (drop-cons digits i 0) (number_from-le (number * 10 + (get_or digits i 0 - 48)) (drop (suc i) digits))

digit_below : (digit : ℕ) → is_digit digit ≡ true → digit - 48 < 10
digit_below digit is = grind (arith, nat_tests)

number_step : (number bound before power : ℕ) → number < bound * power → bound ≤ (before + 1) * 10 → number < (before + 1) * (power * 10)
number_step number bound before power below most = omega (arith, mul-le-mul_right power most)

-- each digit makes room for ten times as many numbers
pub number_from-lt : (before : ℕ) (digits : List ℕ) → list_all is_digit digits ≡ true → number_from before digits < (before + 1) * 10 ^ length digits
number_from-lt before [] all = omega arith
number_from-lt before (digit ∷ digits) all =
    let parts = and_parts (is_digit digit) (list_all is_digit digits) all in
    let small = digit_below digit parts.0 in
    let below = number_from-lt (before * 10 + (digit - 48)) digits parts.1 in
    rw (pow-suc 10 (length digits)) (number_step (number_from (before * 10 + (digit - 48)) digits) (before * 10 + (digit - 48) + 1) before (10 ^ length digits) below (omega arith))

-- so many digits spell a number below that power of ten
pub number_of-lt : (digits : List ℕ) (count : ℕ) → list_all is_digit digits ≡ true → length digits ≤ count → number_of digits < 10 ^ count
number_of-lt digits count all short =
    let ten : 0 < 10 = omega arith in
    omega (arith, number_from-lt 0 digits all, pow-le-pow_right ten short)

-- the digits of two parts one after the other
pub number_from-append : (before : ℕ) (xs ys : List ℕ) → number_from before (xs ++ ys) ≡ number_from (number_from before xs) ys
number_from-append before [] ys = refl
number_from-append before (x ∷ xs) ys = number_from-append (before * 10 + (x - 48)) xs ys
