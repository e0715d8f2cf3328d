-- A vector whose length is tested.
use Rattle.std.proofs.Common.{◌≡◌, ℕ, List, length, Bool, true, arith, ◌==◌}
use Rattle.std.proofs.lemmas.Bool.Decides.{nat_tests}

pub emptied : {X : Type 0} (xs : List X) (len : ℕ) (answer : Bool) → len ≡ length xs → answer ≡ (len == 0) → answer ≡ true → length xs ≡ 0
emptied xs len answer counted test is = let none : len ≡ 0 = grind (arith, nat_tests) in omega (arith, none, counted)
