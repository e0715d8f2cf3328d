-- Truth values: tests joined by and, or and not. More of these laws stand in the standard library, in Bool.
use Rattle.std.proofs.Common.{◌≡◌, Bool, true, false, not, ◌&&◌, refl}

pub and_first : (a b : Bool) → (a && b) ≡ true → a ≡ true
and_first true b h = refl
and_first false b h = absurd cc

pub and_second : (a b : Bool) → (a && b) ≡ true → b ≡ true
and_second true b h = h
and_second false b h = absurd cc

-- of two that are not both true, one is false where the other is true
pub and_first_false : (a b : Bool) → (a && b) ≡ false → b ≡ true → a ≡ false
and_first_false true b h is = absurd cc
and_first_false false b h is = refl

pub and_second_false : (a b : Bool) → (a && b) ≡ false → a ≡ true → b ≡ false
and_second_false true b h is = h
and_second_false false b h is = absurd cc

-- a test that has passed adds nothing to another
pub and_passed : (a b : Bool) → a ≡ true → b ≡ (a && b)
and_passed true b h = refl
and_passed false b h = cc

-- of three tests
pub and_three : (a b c : Bool) → (a && b && c) ≡ true → (a ≡ true) × (b ≡ true) × (c ≡ true)
and_three true true true is = (refl, refl, refl)
and_three true true false is = absurd cc
and_three true false c is = absurd cc
and_three false b c is = absurd cc

pub and_from_three : (a b c : Bool) → a ≡ true → b ≡ true → c ≡ true → (a && b && c) ≡ true
and_from_three true true true first second third = refl
and_from_three true true false first second third = absurd cc
and_from_three true false c first second third = absurd cc
and_from_three false b c first second third = absurd cc

-- no test both passes and fails
pub never_both : (b : Bool) → b ≡ true → b ≡ false → ⊥
never_both b is isnt = cc

pub not_both : (b : Bool) → not b ≡ true → b ≡ true → ⊥
not_both true h g = absurd cc
not_both false h g = cc
