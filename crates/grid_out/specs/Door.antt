-- What a door gives and takes back, and what a door in memory is. All of it is of this project.
use Rattle.std.specs.Prelude.{◌≡◌, ℕ, ◌+◌, Bool, true, false, List, [], ◌∷◌, ◌++◌, length, Option, Some, None, IfSome}

-- where the door tells the links that it still gives, they are as many as it says
abbrev pub AreAsMany : {L : Type 0} → Option (List L) → ℕ → Type 0
AreAsMany coming number = IfSome coming (λ links. length links ≡ number)

-- where the door tells the links that it still gives, this was the first of them and is taken off
abbrev pub GivesFirst : {L : Type 0} → Option (List L) → Option (List L) → L → Type 0
GivesFirst old new link = IfSome old (λ before. (after : List _) × (new ≡ Some after) × (before ≡ link ∷ after))

-- what a door gives: a link, by which the number of those that it still gives falls by one,
-- or none, exactly where that number is 0
abbrev pub Gives : {L : Type 0} → Option L → ℕ → ℕ → Option (List L) → Option (List L) → Type 0
Gives (Some link) before now old new = (before ≡ now + 1) × GivesFirst old new link
Gives None before now old new = (before ≡ 0) × (now ≡ 0) × (new ≡ old)

-- where the door tells the links that were given back, this one came to their end
abbrev pub TakesBack : {L : Type 0} → Option (List L) → Option (List L) → L → Type 0
TakesBack old new link = IfSome old (λ before. new ≡ Some (before ++ link ∷ []))

-- the links of a door: those that it still gives, those that were given back, and whether one is out
pub record Links (L : Type 0) : Type 0 where
  pub coming : List L
  pub back : List L
  pub lent : Bool

abbrev pub count_lent : Bool → ℕ
count_lent true = 1
count_lent false = 0

-- the first link leaves, and is out; where none is left, nothing changes
abbrev pub GivesNext : {L : Type 0} → Links L → Option L → Links L → Type 0
GivesNext before (Some link) after =
    (before.coming ≡ link ∷ after.coming) × (after.back ≡ before.back) × (after.lent ≡ true)
GivesNext before None after = (before.coming ≡ []) × (after ≡ before)

-- the links after one was given back
abbrev pub with_back : {L : Type 0} → Links L → L → Links L
with_back links link = record { coming = links.coming; back = links.back ++ link ∷ []; lent = false }

-- a door in memory: its links, the numbers of the calls of `next` that fail, and how many calls and faults there were
pub record DoorState (L : Type 0) : Type 0 where
  pub links : Links L
  pub failing : List ℕ
  pub calls : ℕ
  pub faults : ℕ
