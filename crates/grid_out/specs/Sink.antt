-- What a sink gains by a call, and what a sink in memory is. All of it is of this project.
use Rattle.std.specs.Prelude.{◌≡◌, ℕ, ◌-◌, Bool, ◌||◌, nat_lt, List, [], ◌++◌, length, take, Option, Some, IfSome, if◌then◌else◌}
use Rattle.grid_out.specs.Faults.{next_count, count_after, is_listed}
use Rattle.grid_out.specs.Notes.{Grows}

-- where the sink tells its bytes, it gained just this piece at its end
abbrev pub Gains : Option (List ℕ) → Option (List ℕ) → List ℕ → Type 0
Gains old new piece = IfSome old (λ held. new ≡ Some (held ++ piece))

-- it gained a prefix of the piece
abbrev pub GainsPrefix : Option (List ℕ) → Option (List ℕ) → List ℕ → Type 0
GainsPrefix old new piece = (n : ℕ) × Gains old new (take n piece)

-- where the sink tells which pieces were handed to it, taken or refused, just these more were, in this order
abbrev pub Hands : Option (List (List ℕ)) → Option (List (List ℕ)) → List (List ℕ) → Type 0
Hands = Grows

-- a sink in memory: its bytes, how many more it takes, the numbers of the calls that fail,
-- how many calls and faults there were, and the pieces that were handed to it, as far as it tells them
pub record SinkState : Type 0 where
  pub written : List ℕ
  pub room : ℕ
  pub failing : List ℕ
  pub calls : ℕ
  pub faults : ℕ
  pub handed : Option (List (List ℕ))

-- whether the next write of this piece fails: the call is listed, or the piece is longer than the room
abbrev pub sink_fails : SinkState → List ℕ → Bool
sink_fails sink piece = is_listed sink.failing sink.calls || nat_lt sink.room (length piece)

-- what goes in of a piece: nothing at a call that is listed, else as much of its front as there is room for
abbrev pub part_taken : SinkState → List ℕ → List ℕ
part_taken sink piece = if is_listed sink.failing sink.calls then [] else take sink.room piece

-- the sink after a write of this piece, with what it then tells of the pieces
abbrev pub sink_after : SinkState → List ℕ → Option (List (List ℕ)) → SinkState
sink_after sink piece handed = record {
  written = sink.written ++ part_taken sink piece;
  room = sink.room - length (part_taken sink piece);
  failing = sink.failing;
  calls = next_count sink.calls;
  faults = count_after sink.faults (sink_fails sink piece);
  handed = handed;
}
