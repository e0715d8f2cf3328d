-- A length that is read is at most 1,000,000,000 metres.
use Rattle.std.proofs.Common.{◌≡◌, ℕ, ◌+◌, ◌*◌, ◌/◌, ◌^◌, ◌≤◌, List, length, ◌++◌, Bool, true, false, if◌then◌else◌, ◌&&◌, ◌==◌, Option, Some, None, refl, subst, arith}
use Rattle.std.specs.Prelude.{nat_le, nat_lt}
use Rattle.std.proofs.Math.Nat.{div-le_of_le-mul}
use Rattle.std.proofs.lemmas.Nat.{pow-add}
use Rattle.std.proofs.lemmas.Option.{same_Some}
use Rattle.std.proofs.lemmas.Bool.{leb-true}
use Rattle.plain_laws.proofs.Options.{if_then_some}
use Rattle.cim_words.specs.Limits.{most_length}
use Rattle.cim_words.specs.Length.{Scale, after_digits, after_fraction, digits_at, fraction_at, length_of, millimetres, minus, scale_of, scaled, without_sign}
use Rattle.cim_words.specs.PhaseParts.{begins_with}
use Rattle.cim_words.specs.Values.{number_of}
use Rattle.cim_words.specs.declared.object.Object.{Object}
use Rattle.cim_words.specs.declared.object.Object.TheVariants as object
use Rattle.cim_model.specs.Values.{length_said}

-- at most so many metres are at most so many millimetres
within_metres : (number power divisor : ℕ) → number * power ≤ 1000000000 * divisor → number * (power * 1000) / divisor ≤ most_length
within_metres number power divisor upto =
    div-le_of_le-mul divisor (omega arith)

measured : (number up down n : ℕ) (b : Bool) → nat_le (number * 10 ^ up) (1000000000 * 10 ^ down) ≡ b
    → (if b then Some (number * 10 ^ (up + 3) / 10 ^ down) else None) ≡ Some n → n ≤ most_length
measured number up down n true within is =
    let power : 10 ^ (up + 3) ≡ 10 ^ up * 1000 = pow-add 10 up 3 in
    let least : number * 10 ^ (up + 3) / 10 ^ down ≤ most_length = rw power (within_metres number (10 ^ up) (10 ^ down) (leb-true _ _ within)) in
    subst (λ (k : ℕ). k ≤ most_length) (same_Some (number * 10 ^ (up + 3) / 10 ^ down) n is) least
measured number up down n false within is = absurd cc

unless_negative : (negative : Bool) (o : Option ℕ) (n : ℕ) → (if negative then None else o) ≡ Some n → o ≡ Some n
unless_negative true o n is = absurd cc
unless_negative false o n is = is

unless_zero : (zero_is : Bool) (o : Option ℕ) (n : ℕ) → (o ≡ Some n → n ≤ most_length) → (if zero_is then Some 0 else o) ≡ Some n → n ≤ most_length
unless_zero true o n other is = let same : 0 ≡ n = same_Some 0 n is in omega arith
unless_zero false o n other is = other is

millimetres_within : (negative : Bool) (number up down n : ℕ) → millimetres negative number up down ≡ Some n → n ≤ most_length
unfolding millimetres
millimetres_within negative number up down n is =
    unless_zero (number == 0) _ n (λ measured_is. measured number up down n (nat_le (number * 10 ^ up) (1000000000 * 10 ^ down)) refl (unless_negative negative _ n measured_is)) is

scale_within : (negative divides : Bool) (number behind exponent n : ℕ)
    → (if divides then millimetres negative number 0 (behind + exponent) else millimetres negative number exponent behind) ≡ Some n → n ≤ most_length
scale_within negative true number behind exponent n is = millimetres_within negative number 0 (behind + exponent) n is
scale_within negative false number behind exponent n is = millimetres_within negative number exponent behind n is

scaled_within : (negative : Bool) (digits : List ℕ) (behind n : ℕ) (scale : Option Scale) → scaled negative digits behind scale ≡ Some n → n ≤ most_length
scaled_within negative digits behind n None is = absurd cc
scaled_within negative digits behind n (Some scale) is = scale_within negative scale.divides (number_of digits) behind scale.exponent n is

length_within : (text : List ℕ) (n : ℕ) → length_of text ≡ Some n → n ≤ most_length
unfolding length_of
length_within text n is =
    let rest = after_digits (without_sign text) in
    let digits = digits_at (without_sign text) ++ fraction_at rest in
    scaled_within (begins_with minus text) digits (length (fraction_at rest)) n (scale_of (after_fraction rest)) (if_then_some (nat_lt 0 (length digits) && nat_le (length digits) 30) _ n is).1

pub said_within : (o : Object) (n : ℕ) → length_said o ≡ Some n → n ≤ most_length
said_within (object.Text text) n is = length_within text n is
said_within (object.Id id) n is = absurd cc
said_within (object.Name text) n is = absurd cc
