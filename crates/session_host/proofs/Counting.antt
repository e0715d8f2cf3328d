-- The counts of ends, with one more end.
use Rattle.std.proofs.Common.{◌≡◌, ℕ, suc, min, ◌+◌, ◌-◌, ◌<◌, ◌≤◌, ◌^◌, List, [], ◌∷◌, ◌++◌, length, Bool, true, false, if◌then◌else◌, refl, ap, ◌∙◌, arith, length-append}
use Rattle.line_serve.specs.declared.serving.LinesEnd.{LinesEnd}
use Rattle.line_serve.specs.declared.serving.LinesEnd.TheVariants as end
use Rattle.session_host.specs.Doors.{how_many, is_end}

-- how many of some ends are this one, with one more behind them
many_behind : (ends : List LinesEnd) (this other : LinesEnd) → how_many this (ends ++ other ∷ []) ≡ how_many this ends + (if is_end this other then 1 else 0)
many_behind [] this other = omega arith
many_behind (first ∷ ends) this other = let rest = many_behind ends this other in omega (arith, rest)

one_more : (is : Bool) (many all : ℕ) → many ≤ all → (if is then 1 else 0) + many ≤ suc all
one_more true many all few = omega (arith, few)
one_more false many all few = omega (arith, few)

few_of : (this : LinesEnd) (ends : List LinesEnd) → how_many this ends ≤ length ends
few_of this [] = omega arith
few_of this (other ∷ ends) = one_more (is_end this other) (how_many this ends) (length ends) (few_of this ends)

is_itself : (this : LinesEnd) → is_end this this ≡ true
is_itself end.Bye = refl
is_itself end.Ended = refl
is_itself end.ReadFault = refl
is_itself end.WriteFault = refl
is_itself end.LongLine = refl
is_itself end.Spent = refl

-- the count of all, of those that are this end, and of those that are not
pub all_more : (ends : List LinesEnd) (other : LinesEnd) (n count : ℕ) → length ends + 1 < 2 ^ 32 → n ≡ min (count + 1) (2 ^ 32 - 1) → count ≡ length ends →
    n ≡ length (ends ++ other ∷ [])
all_more ends other n count short is counted = omega (arith, short, is, counted, length-append ends (other ∷ []))

pub more : (ends : List LinesEnd) (this other : LinesEnd) (n count : ℕ) → other ≡ this → length ends + 1 < 2 ^ 32 → n ≡ min (count + 1) (2 ^ 32 - 1) →
    count ≡ how_many this ends → n ≡ how_many this (ends ++ other ∷ [])
more ends this other n count same short is counted =
    let counts : is_end this other ≡ true = ap (is_end this) same ∙ is_itself this in
    let behind : how_many this (ends ++ other ∷ []) ≡ how_many this ends + 1 =
    many_behind ends this other ∙ ap (λ (b : Bool). how_many this ends + (if b then 1 else 0)) counts in
    omega (arith, short, is, counted, behind, few_of this ends)

pub kept : (ends : List LinesEnd) (this named other : LinesEnd) (count : ℕ) → is_end this named ≡ false → other ≡ named → count ≡ how_many this ends →
    count ≡ how_many this (ends ++ other ∷ [])
kept ends this named other count differs same counted =
    let counts : is_end this other ≡ false = ap (is_end this) same ∙ differs in
    let behind : how_many this (ends ++ other ∷ []) ≡ how_many this ends + 0 =
    many_behind ends this other ∙ ap (λ (b : Bool). how_many this ends + (if b then 1 else 0)) counts in
    omega (arith, counted, behind)
