-- Bytes without a mark.
use Rattle.std.specs.Prelude.{ℕ, List, [], ◌∷◌, ◌≢◌}

-- none of the bytes is the mark
abbrev pub IsFreeOf : ℕ → List ℕ → Type 0
IsFreeOf mark [] = Unit {0}
IsFreeOf mark (byte ∷ bytes) = (byte ≢ mark) × IsFreeOf mark bytes
