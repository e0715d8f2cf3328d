-- What the shelf tells of the files that words name, of this project. None may be longer than a base.
use Rattle.std.specs.Prelude.{ℕ, ◌≡◌, ◌≢◌, ◌≤◌, ◌<◌, ◌⊎◌, List, [], ◌∷◌, length, Option, Some, IfSome}
use Rattle.room_base.specs.Base.{base_limit}
use Rattle.room_base.specs.declared.refusal.BaseRefusal.TheVariants as base
use Rattle.room_base.specs.declared.refusal.Refusal.{Refusal}
use Rattle.room_base.specs.declared.refusal.Refusal.TheVariants as refusal

-- the shelf tells each of the files
abbrev pub TellsAll : (List ℕ → Option (List ℕ)) → List (List ℕ) → Type 0
TellsAll told [] = Unit {0}
TellsAll told (name ∷ names) = ((bytes : List ℕ) × (told name ≡ Some bytes)) × TellsAll told names

-- the contents of the files, one for each: what the shelf tells of its name, where it tells it, and not too long
abbrev pub AreContents : (List ℕ → Option (List ℕ)) → List (List ℕ) → List (List ℕ) → Type 0
AreContents told [] [] = Unit {0}
AreContents told [] (bytes ∷ contents) = ⊥
AreContents told (name ∷ names) [] = ⊥
AreContents told (name ∷ names) (bytes ∷ contents) = IfSome (told name) (λ b. bytes ≡ b) × (length bytes ≤ base_limit) × AreContents told names contents

-- none of the files is too long, as far as the shelf tells
abbrev pub NoneIsLong : (List ℕ → Option (List ℕ)) → List (List ℕ) → Type 0
NoneIsLong told [] = Unit {0}
NoneIsLong told (name ∷ names) = IfSome (told name) (λ b. length b ≤ base_limit) × NoneIsLong told names

-- one of the files is too long
abbrev pub OneIsLong : (List ℕ → Option (List ℕ)) → List (List ℕ) → Type 0
OneIsLong told [] = ⊥
OneIsLong told (name ∷ names) = IfSome (told name) (λ b. base_limit < length b) ⊎ OneIsLong told names

-- why files are not read: a read failed, or one of them is too long
abbrev pub RefusesFiles : (List ℕ → Option (List ℕ)) → List (List ℕ) → Refusal → Type 0
RefusesFiles told names refusal.ReadFault = Unit {0}
RefusesFiles told names (refusal.Base base.Limit) = OneIsLong told names
RefusesFiles told names why = ⊥

-- a file is named by a word that is not empty and does not begin with `-`
abbrev pub IsFileName : List ℕ → Type 0
IsFileName [] = ⊥
IsFileName (first ∷ _) = first ≢ 0x2D
