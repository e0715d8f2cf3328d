-- The slots of a new table.
use Rattle.std.specs.Prelude.{ℕ, zero, suc, List, [], ◌∷◌, Option, Some, None}

-- the slots of n consoles: the writer's and the reader's, which are empty, and the one that the word names, with a version
abbrev pub laid : {V : Type 0} → ℕ → V → List (Option V)
laid zero v = []
laid (suc n) v = None ∷ None ∷ Some v ∷ laid n v
