-- Lists of texts that an object tells, as far as it tells them. All of it is of this project.
use Rattle.std.specs.Prelude.{◌≡◌, ℕ, List, ◌++◌, Option, Some, IfSome}

-- where the list is told after a call, it was told before it, and just these texts came to its end
-- (who notes texts may want memory for them, and then tells none from there on)
abbrev pub Grows : Option (List (List ℕ)) → Option (List (List ℕ)) → List (List ℕ) → Type 0
Grows old new texts = IfSome new (λ all. (before : List (List ℕ)) × (old ≡ Some before) × (all ≡ before ++ texts))
