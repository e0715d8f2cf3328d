-- The first of a list that has not what the others before it have, of this project.
use Rattle.std.specs.Prelude.{◌≡◌, List, ◌∷◌, ◌++◌, Contains}

-- all of a list have something, and an element is the first that has it not
abbrev pub AllHave : {X : Type 0} → (X → Type 0) → List X → Type 0
AllHave {X} P xs = (x : X) → Contains xs x → P x

pub record IsFirstWithout {X : Type 0} (P : X → Type 0) (xs : List X) (x : X) : Type 0 where
  pub before : List X
  pub after : List X
  pub listed : xs ≡ before ++ x ∷ after
  pub have : AllHave P before
  pub without : P x → ⊥
