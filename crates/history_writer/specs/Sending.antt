-- What goes to the output in pieces, of this project.
use Rattle.std.specs.Prelude.{ℕ, ◌≡◌, List, Option}
use Rattle.std.specs.List.{flat_map}
use Rattle.grid_out.specs.Faults.{Rose}
use Rattle.grid_out.specs.Sink.{Gains, GainsPrefix, Hands}
use Rattle.history_writer.specs.declared.fault.OutFault.{OutFault}
use Rattle.history_writer.specs.declared.fault.OutFault.TheVariants as fault

-- the output as contracts see it: its bytes, its faults and the pieces that were handed to it
pub record OutputState : Type 0 where
  pub written : Option (List ℕ)
  pub faults : ℕ
  pub handed : Option (List (List ℕ))

abbrev pub output : Option (List ℕ) → ℕ → Option (List (List ℕ)) → OutputState
output written faults handed = record { written = written; faults = faults; handed = handed }

-- how many bytes of a text are enough to be handed on as a piece
abbrev pub piece_bytes : ℕ
piece_bytes = 65536

-- the pieces in which a text was handed to the output make up the text
abbrev pub HandsText : Option (List (List ℕ)) → Option (List (List ℕ)) → List ℕ → Type 0
HandsText old new text = (pieces : List (List ℕ)) × (flat_map (λ piece. piece) pieces ≡ text) × Hands old new pieces

-- a text was taken, piece by piece, without a fault
pub record Sends (before after : OutputState) (text : List ℕ) : Type 0 where
  pub gains : Gains before.written after.written text
  pub faults : after.faults ≡ before.faults
  pub hands : HandsText before.handed after.handed text

-- a text was handed on, and the output failed after a front of it
pub record Breaks (before after : OutputState) (text : List ℕ) : Type 0 where
  pub gains : GainsPrefix before.written after.written text
  pub fault : Rose before.faults after.faults
  pub hands : HandsText before.handed after.handed text

-- what became of a text that was handed on before a fault: the output failed within it, or took it before memory ended
abbrev pub StopsAt : OutFault → OutputState → OutputState → List ℕ → Type 0
StopsAt fault.WriteFault before after text = Breaks before after text
StopsAt fault.NoMemory before after text = Sends before after text
