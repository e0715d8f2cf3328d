-- How the line of a refusal goes to the output.
use Rattle.std.specs.Prelude.{ℕ, ◌≡◌, ◌⊎◌, List, [], ◌∷◌, Option}
use Rattle.grid_out.specs.Faults.{Rose}
use Rattle.grid_out.specs.Sink.{Gains, GainsPrefix}
use Rattle.room_base.specs.declared.status.Status.{Status}
use Rattle.room_base.specs.declared.status.Status.TheVariants as status

-- What the output gained: the text; after a fault of the output a front of it. A refusal's line that the output does not take
-- leaves the status as it is.
pub record GainsFront (old new : Option (List ℕ)) (before now : ℕ) (text : List ℕ) : Type 0 where
  pub front : GainsPrefix old new text
  pub fault : Rose before now

abbrev pub GainsAtMost : Option (List ℕ) → Option (List ℕ) → ℕ → ℕ → List ℕ → Type 0
GainsAtMost old new before now text = (Gains old new text × (now ≡ before)) ⊎ GainsFront old new before now text

-- the pieces in which a text is handed to the output: all of it at once, and nothing where no text is written
abbrev pub pieces_of : Status → List ℕ → List (List ℕ)
pieces_of status.NoMemory text = []
pieces_of _ text = text ∷ []
