-- Tests of numbers and what they say. More of these laws stand in the standard library, in Bool.
use Rattle.std.proofs.Common.{◌≡◌, ℕ, ◌<◌, ◌≤◌, ◌==◌, ltb, leb, true, false, arith}
use Rattle.std.specs.Ordering.{nat_cmp}
use Rattle.std.specs.declared.cmp.Ordering.TheVariants.{Less, Equal, Greater}
use Rattle.std.proofs.lemmas.Bool.Decides.{nat_tests}

pub equal_itself : (n : ℕ) → (n == n) ≡ true
equal_itself n = grind (arith, nat_tests)

-- in either order
pub equal_turned : (m n : ℕ) → (m == n) ≡ (n == m)
equal_turned m n = grind (arith, nat_tests)

-- a key that is below another, above it, or neither
pub other_below : (m n : ℕ) → ltb m n ≡ true → (m == n) ≡ false
other_below m n h = grind (arith, nat_tests)

pub other_above : (m n : ℕ) → leb m n ≡ false → (m == n) ≡ false
other_above m n h = grind (arith, nat_tests)

pub same_between : (m n : ℕ) → ltb m n ≡ false → leb m n ≡ true → (m == n) ≡ true
same_between m n h g = grind (arith, nat_tests)

-- ---- how numbers compare

pub cmp_less : (m n : ℕ) → nat_cmp m n ≡ Less → m < n
cmp_less m n is = grind (arith, nat_tests)

pub less_cmp : (m n : ℕ) → m < n → nat_cmp m n ≡ Less
less_cmp m n h = grind (arith, nat_tests)

pub cmp_equal : (m n : ℕ) → nat_cmp m n ≡ Equal → m ≡ n
cmp_equal m n is = grind (arith, nat_tests)

pub cmp_not_greater : (m n : ℕ) → (nat_cmp m n ≡ Greater → ⊥) → m ≤ n
cmp_not_greater m n h = grind (arith, nat_tests)

pub cmp_one_way : (m n : ℕ) → nat_cmp m n ≡ Less → nat_cmp n m ≡ Less → ⊥
cmp_one_way m n is back = let up = cmp_less m n is in let down = cmp_less n m back in omega arith
