-- Room for what is appended to bytes.
use Rattle.std.specs.Prelude.{ℕ, ◌+◌, ◌<◌, ◌≤◌, Result, OnErr, vec_capacity, vec_len}
use Rattle.std.specs.Global.{Vec}

-- A call that appends at most so many bytes: what room there is stays, no more bytes come, and it is refused only where so many have none.
abbrev pub Fits : {E : Type 0} → ℕ → Vec ℕ → Vec ℕ → Result (Unit {0}) E → Type 0
Fits most old new result =
    (vec_capacity old ≤ vec_capacity new) × (vec_len new ≤ vec_len old + most) × OnErr result (vec_capacity old < vec_len old + most)
