-- How the counts of several calls go together.
use Rattle.std.proofs.Common.{◌≡◌, ℕ, Bool, true, false, ◌||◌, arith, refl}
use Rattle.grid_out.specs.Faults.{CountsFaults, Rose}

-- where nothing is called, nothing fails
pub counts_none : (count : ℕ) → CountsFaults count count false
counts_none count = record { later = omega arith; rose = λ e. cc; kept = λ _. refl }

-- of two calls one after the other, one failed where the first or the second did
pub counts_both : (before between now : ℕ) (first second : Bool) →
    CountsFaults before between first → CountsFaults between now second → CountsFaults before now (first || second)
counts_both before between now true second a b =
    let rose : Rose before between = a.rose refl in
    record { later = omega (arith, a.later, b.later); rose = λ _. omega (arith, b.later); kept = λ e. cc }
counts_both before between now false second a b =
    let same : between ≡ before = a.kept refl in
    rw same at b

-- a count that is the constant 0 has no fault
pub never_failed : (failed : Bool) → CountsFaults 0 0 failed → failed ≡ false
never_failed false counts = refl
never_failed true counts = let rose : Rose 0 0 = counts.rose refl in absurd (omega arith)
