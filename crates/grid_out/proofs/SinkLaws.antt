-- How what a sink gains by several pieces goes together.
use Rattle.std.proofs.Common.{◌≡◌, ℕ, ◌+◌, min, List, [], ◌++◌, length, take, Option, Some, None, ◌∙◌, arith, append_assoc}
use Rattle.std.proofs.lemmas.List.{take-append-le, take_min}
use Rattle.std.proofs.Math.Nat.{min-le_right}
use Rattle.std.proofs.Math.Seq.{take-append-add, take-length}
use Rattle.std.proofs.lemmas.Grind.{common_steps}
use Rattle.grid_out.specs.Sink.{Gains, GainsPrefix}

-- where nothing is written, the sink gains the empty piece
pub gains_nothing : (held : Option (List ℕ)) → Gains held held []
gains_nothing None = tt
gains_nothing (Some bytes) = grind (arith, common_steps)

-- two pieces one after the other are one piece
pub gains_both : (old between new : Option (List ℕ)) (first second : List ℕ) →
    Gains old between first → Gains between new second → Gains old new (first ++ second)
gains_both None between new first second a b = tt
gains_both (Some held) between new first second a b =
    let c = rw a at b in
    rw (← append_assoc held first second) c

-- a piece, and then a front part of another, are a front part of both
pub gains_then_prefix : (old between new : Option (List ℕ)) (first second : List ℕ) →
    Gains old between first → GainsPrefix between new second → GainsPrefix old new (first ++ second)
gains_then_prefix old between new first second a b = (
  length first + b.0,
  rw (take-append-add first second b.0) (gains_both old between new first (take b.0 second) a b.1),
)

-- a whole piece is a front part of itself
pub prefix_from_gains : (old new : Option (List ℕ)) (piece : List ℕ) → Gains old new piece → GainsPrefix old new piece
prefix_from_gains old new piece a = (length piece, rw (take-length piece) a)

-- a front part of a piece is one of a longer piece too
pub prefix_of_more : (old new : Option (List ℕ)) (piece more : List ℕ) →
    GainsPrefix old new piece → GainsPrefix old new (piece ++ more)
prefix_of_more old new piece more a =
    let count : ℕ = min a.0 (length piece) in
    let front : take count (piece ++ more) ≡ take a.0 piece =
    take-append-le count piece more (min-le_right a.0 (length piece)) ∙ take_min a.0 piece in
    (count, rw front a.1)
