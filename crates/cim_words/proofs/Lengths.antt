-- What the parts of a text make of its length.
use Rattle.std.proofs.Common.{◌≡◌, ℕ, suc, ◌+◌, ◌^◌, ◌<◌, ◌≤◌, List, [], ◌∷◌, ◌++◌, Bool, true, false, ◌&&◌, if◌then◌else◌, Option, Some, None, length, take, length-append, arith, refl, sym}
use Rattle.std.specs.Prelude.{nat_le, nat_lt}
use Rattle.std.specs.List.{list_all, prefix_len}
use Rattle.std.proofs.lemmas.Option.{cond_some}
use Rattle.std.proofs.lemmas.Bool.{and_parts, and_from, le-leb, lt-ltb}
use Rattle.cim_words.specs.Length.{IsNumberSplit, Scale, minus, digits_at, scale_of, scaled, millimetres, number_in, length_of}
use Rattle.cim_words.specs.PhaseParts.{begins_with}
use Rattle.cim_words.specs.Values.{is_digit, number_from, number_of}
use Rattle.cim_words.proofs.Digits.{number_from-append, number_of-lt}

list_all-append : (xs ys : List ℕ) → list_all is_digit xs ≡ true → list_all is_digit ys ≡ true → list_all is_digit (xs ++ ys) ≡ true
list_all-append [] ys left right = right
list_all-append (x ∷ xs) ys left right =
    let parts = and_parts (is_digit x) (list_all is_digit xs) left in
    and_from (is_digit x) (list_all is_digit (xs ++ ys)) parts.0 (list_all-append xs ys parts.1 right)

digits_only_at : (b : Bool) (digit : ℕ) (n : ℕ) (rest : List ℕ) → is_digit digit ≡ b → list_all is_digit (take n rest) ≡ true
    → list_all is_digit (take (if b then 1 + n else 0) (digit ∷ rest)) ≡ true
digits_only_at true digit n rest is all =
    let next : 1 + n ≡ suc n = omega arith in
    rw next (and_from (is_digit digit) (list_all is_digit (take n rest)) is all)
digits_only_at false digit n rest is all = refl

-- digits at the front are digits
pub digits_only : (text : List ℕ) → list_all is_digit (digits_at text) ≡ true
digits_only [] = refl
digits_only (digit ∷ text) = digits_only_at (is_digit digit) digit (prefix_len is_digit text) text refl (digits_only text)

-- the digits on both sides of a point are digits, and so few of them spell a small number
pub number_in-small : (whole fraction : List ℕ) → list_all is_digit whole ≡ true → list_all is_digit fraction ≡ true
    → length whole + length fraction ≤ 30 → number_from (number_of whole) fraction < 10 ^ 30
number_in-small whole fraction whole_only fraction_only short =
    let few : length (whole ++ fraction) ≤ 30 = simp length-append (omega arith) in
    rw (← number_from-append 0 whole fraction) (number_of-lt (whole ++ fraction) 30 (list_all-append whole fraction whole_only fraction_only) few)

-- the number that the digits on both sides of a point spell
pub number_in-parts : (whole fraction : List ℕ) (number : ℕ) → 0 < length whole + length fraction → length whole + length fraction ≤ 30
    → number ≡ number_from (number_of whole) fraction → Some number ≡ number_in (whole ++ fraction)
number_in-parts whole fraction number some short is =
    let few : nat_le (length (whole ++ fraction)) 30 ≡ true = le-leb (length (whole ++ fraction)) 30 (simp length-append (omega arith)) in
    let any : nat_lt 0 (length (whole ++ fraction)) ≡ true = lt-ltb 0 (length (whole ++ fraction)) (simp length-append (omega arith)) in
    rw (few, any, is, number_from-append 0 whole fraction) refl

-- the length that the parts of a text make
abbrev assembled : Bool → List ℕ → List ℕ → List ℕ → Option ℕ
assembled negative whole fraction ending =
    if nat_lt 0 (length (whole ++ fraction)) && nat_le (length (whole ++ fraction)) 30
    then scaled negative (whole ++ fraction) (length fraction) (scale_of ending)
    else None

length_of-parts : (text whole fraction ending : List ℕ) → IsNumberSplit text whole fraction ending
    → length_of text ≡ assembled (begins_with minus text) whole fraction ending
unfolding length_of
length_of-parts text whole fraction ending split = rw (split.whole_digits, split.fraction_digits, split.rest) refl

not_tested : (b : Bool) (value : ℕ) → None ≡ (if b then Some value else None) → b ≡ false
not_tested true value is = absurd cc
not_tested false value is = refl

-- there is no length without a number
pub length_of-no_number : (text whole fraction ending : List ℕ) → IsNumberSplit text whole fraction ending → None ≡ number_in (whole ++ fraction)
    → None ≡ length_of text
length_of-no_number text whole fraction ending split none =
    let no : (nat_lt 0 (length (whole ++ fraction)) && nat_le (length (whole ++ fraction)) 30) ≡ false = not_tested _ _ none in
    rw (length_of-parts text whole fraction ending split, no) refl

-- nor without a power of ten
pub length_of-no_scale : (text whole fraction ending : List ℕ) (number : ℕ) → IsNumberSplit text whole fraction ending
    → Some number ≡ number_in (whole ++ fraction) → scale_of ending ≡ None → None ≡ length_of text
length_of-no_scale text whole fraction ending number split some none =
    let yes = cond_some (nat_lt 0 (length (whole ++ fraction)) && nat_le (length (whole ++ fraction)) 30) (number_of (whole ++ fraction)) number (sym some) in
    rw (length_of-parts text whole fraction ending split, yes.0, none) refl

-- a power of ten divides or multiplies the number
pub length_of-divided : (text whole fraction ending : List ℕ) (number : ℕ) (scale : Scale) → IsNumberSplit text whole fraction ending
    → Some number ≡ number_in (whole ++ fraction) → scale_of ending ≡ Some scale → scale.divides ≡ true
    → millimetres (begins_with minus text) number 0 (length fraction + scale.exponent) ≡ length_of text
length_of-divided text whole fraction ending number scale split some is divides =
    let yes = cond_some (nat_lt 0 (length (whole ++ fraction)) && nat_le (length (whole ++ fraction)) 30) (number_of (whole ++ fraction)) number (sym some) in
    rw (length_of-parts text whole fraction ending split, yes.0, is, divides, yes.1) refl

pub length_of-multiplied : (text whole fraction ending : List ℕ) (number : ℕ) (scale : Scale) → IsNumberSplit text whole fraction ending
    → Some number ≡ number_in (whole ++ fraction) → scale_of ending ≡ Some scale → scale.divides ≡ false
    → millimetres (begins_with minus text) number scale.exponent (length fraction) ≡ length_of text
length_of-multiplied text whole fraction ending number scale split some is divides =
    let yes = cond_some (nat_lt 0 (length (whole ++ fraction)) && nat_le (length (whole ++ fraction)) 30) (number_of (whole ++ fraction)) number (sym some) in
    rw (length_of-parts text whole fraction ending split, yes.0, is, divides, yes.1) refl
