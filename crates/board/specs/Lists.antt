-- Beginnings of lists, and numbers in lists.
use Rattle.std.specs.Prelude.{◌≡◌, ℕ, cond, nat_le, List, [], ◌∷◌, length, take}

-- the list ys begins with xs
abbrev pub IsPrefix : {A : Type 0} → List A → List A → Type 0
IsPrefix xs ys = take (length xs) ys ≡ xs

-- the longer of two lists, and the second where they are as long
abbrev pub longer : {A : Type 0} → List A → List A → List A
longer xs ys = cond (nat_le (length xs) (length ys)) ys xs

-- the last of the numbers, and d where there is none
abbrev pub last_or : ℕ → List ℕ → ℕ
last_or d [] = d
last_or d (n ∷ ns) = last_or n ns
