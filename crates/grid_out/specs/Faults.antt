-- How the outside counts its calls and its faults. All of it is of this project.
use Rattle.std.specs.Prelude.{◌≡◌, ℕ, ◌+◌, ◌-◌, ◌^◌, ◌≤◌, ◌==◌, min, Bool, true, false, not, IsTrue, List}
use Rattle.std.specs.List.{list_any}

-- the number after this one, in a count that stands still at the end of its type (64 bits)
abbrev pub next_count : ℕ → ℕ
next_count n = min (n + 1) (2 ^ 64 - 1)

-- the count rose by one or more, or stood at the end of its type
abbrev pub Rose : ℕ → ℕ → Type 0
Rose before now = next_count before ≤ now

-- the count never falls, rises at each fault, and stays where there was none
pub record CountsFaults (before now : ℕ) (failed : Bool) : Type 0 where
  pub later : before ≤ now
  pub rose : IsTrue failed → Rose before now
  pub kept : IsTrue (not failed) → now ≡ before

-- the count after a call, which is one more where the call failed
abbrev pub count_after : ℕ → Bool → ℕ
count_after before true = next_count before
count_after before false = before

-- whether the list names the call that comes after this many, counted from 1
abbrev pub is_listed : List ℕ → ℕ → Bool
is_listed failing calls = list_any (λ number. number == next_count calls) failing
