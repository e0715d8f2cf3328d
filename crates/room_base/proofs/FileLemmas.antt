-- What the shelf tells of several files.
use Rattle.std.proofs.Common.{◌≡◌, ℕ, ◌≤◌, ◌<◌, ◌⊎◌, inl, inr, List, [], ◌∷◌, length, Option, Some, None, IfSome, refl, sym, subst, ◌∙◌, arith}
use Rattle.std.proofs.lemmas.Option.{same_Some}
use Rattle.room_base.specs.Base.{base_limit}
use Rattle.room_base.specs.Files.{AreContents, NoneIsLong, OneIsLong, TellsAll}

-- what holds of what the shelf tells of a name
pub of_told : (P : List ℕ → Type 0) (told : Option (List ℕ)) (bytes : List ℕ) → told ≡ Some bytes → IfSome told P → P bytes
of_told P told bytes is holds = subst (λ o. IfSome o P) is holds

-- the shelf tells these contents of the files
abbrev pub AreTold : (List ℕ → Option (List ℕ)) → List (List ℕ) → List (List ℕ) → Type 0
AreTold told [] [] = Unit {0}
AreTold told [] (bytes ∷ contents) = ⊥
AreTold told (name ∷ names) [] = ⊥
AreTold told (name ∷ names) (bytes ∷ contents) = (told name ≡ Some bytes) × AreTold told names contents

-- none of the contents is too long; and one is
abbrev pub AllFit : List (List ℕ) → Type 0
AllFit [] = Unit {0}
AllFit (bytes ∷ contents) = (length bytes ≤ base_limit) × AllFit contents

abbrev pub OneIsOver : List (List ℕ) → Type 0
OneIsOver [] = ⊥
OneIsOver (bytes ∷ contents) = (base_limit < length bytes) ⊎ OneIsOver contents

pub told_contents : (told : List ℕ → Option (List ℕ)) (names : List (List ℕ)) → TellsAll told names → (contents : List (List ℕ)) × AreTold told names contents
told_contents told [] tells = ([], tt)
told_contents told (name ∷ names) tells =
    let rest = told_contents told names tells.1 in
    (tells.0.0 ∷ rest.0, (tells.0.1, rest.1))

pub one_list : (told : List ℕ → Option (List ℕ)) (names a b : List (List ℕ)) → AreTold told names a → AreTold told names b → a ≡ b
one_list told [] [] [] p q = refl
one_list told [] [] (y ∷ b) p q = absurd q
one_list told [] (x ∷ a) b p q = absurd p
one_list told (name ∷ names) [] b p q = absurd p
one_list told (name ∷ names) (x ∷ a) [] p q = absurd q
one_list told (name ∷ names) (x ∷ a) (y ∷ b) p q =
    let first : x ≡ y = same_Some x y (sym p.0 ∙ q.0) in
    let rest : a ≡ b = one_list told names a b p.1 q.1 in
    cc

-- the contents that were read are those that the shelf tells, and fit
pub as_told : (told : List ℕ → Option (List ℕ)) (names read contents : List (List ℕ)) → AreContents told names read → AreTold told names contents → read ≡ contents
as_told told [] [] [] p q = refl
as_told told [] [] (y ∷ b) p q = absurd q
as_told told [] (x ∷ a) b p q = absurd p
as_told told (name ∷ names) [] b p q = absurd p
as_told told (name ∷ names) (x ∷ a) [] p q = absurd q
as_told told (name ∷ names) (x ∷ a) (y ∷ b) p q =
    let first : x ≡ y = of_told (λ bytes. x ≡ bytes) (told name) y q.0 p.0 in
    let rest : a ≡ b = as_told told names a b p.2 q.1 in
    cc

pub read_fits : (told : List ℕ → Option (List ℕ)) (names read : List (List ℕ)) → AreContents told names read → AllFit read
read_fits told [] [] p = tt
read_fits told [] (x ∷ a) p = absurd p
read_fits told (name ∷ names) [] p = absurd p
read_fits told (name ∷ names) (x ∷ a) p = (p.1, read_fits told names a p.2)

pub told_fits : (told : List ℕ → Option (List ℕ)) (names contents : List (List ℕ)) → NoneIsLong told names → AreTold told names contents → AllFit contents
told_fits told [] [] p q = tt
told_fits told [] (y ∷ b) p q = absurd q
told_fits told (name ∷ names) [] p q = absurd q
told_fits told (name ∷ names) (y ∷ b) p q = (of_told (λ bytes. length bytes ≤ base_limit) (told name) y q.0 p.0, told_fits told names b p.1 q.1)

pub told_over : (told : List ℕ → Option (List ℕ)) (names contents : List (List ℕ)) → OneIsLong told names → AreTold told names contents → OneIsOver contents
told_over told [] contents p q = absurd p
told_over told (name ∷ names) [] p q = absurd q
told_over told (name ∷ names) (y ∷ b) (inl long) q = inl (of_told (λ bytes. base_limit < length bytes) (told name) y q.0 long)
told_over told (name ∷ names) (y ∷ b) (inr long) q = inr (told_over told names b long q.1)

pub fit_or_over : (contents : List (List ℕ)) → AllFit contents → OneIsOver contents → ⊥
fit_or_over [] fits over = over
fit_or_over (bytes ∷ contents) fits (inl over) = let small = fits.0 in omega (arith, small, over)
fit_or_over (bytes ∷ contents) fits (inr over) = fit_or_over contents fits.1 over

-- contents that were read are not too long, as far as the shelf tells
pub read_short : (told : List ℕ → Option (List ℕ)) (names read : List (List ℕ)) → AreContents told names read → NoneIsLong told names
read_short told [] [] p = tt
read_short told [] (x ∷ a) p = absurd p
read_short told (name ∷ names) [] p = absurd p
read_short told (name ∷ names) (x ∷ a) p = (short (told name) x p.0 p.1, read_short told names a p.2)
  where
    short : (content : Option (List ℕ)) (bytes : List ℕ) → IfSome content (λ b. bytes ≡ b) → length bytes ≤ base_limit → IfSome content (λ b. length b ≤ base_limit)
    short None bytes is fits = tt
    short (Some b) bytes is fits = subst (λ (l : List ℕ). length l ≤ base_limit) is fits
