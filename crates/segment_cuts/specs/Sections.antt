-- The sections of a line segment, of this project: cuts divide it and clamps do not (IEC 61970-301 has Cut and Clamp).
use Rattle.std.specs.Prelude.{ℕ, ◌≡◌, ◌<◌, ◌≤◌, ◌+◌, ◌*◌, ◌==◌, ◌&&◌, ◌⊎◌, ◌↔◌, nat_lt, Bool, true, false, cond, List, [], ◌∷◌, length, Contains}
use Rattle.std.specs.List.{All, AllPairs, flat_map, count_by}
use Rattle.cim_words.specs.Limits.{most_length, most_marks}
use Rattle.cim_words.specs.declared.identifier.Id.{Id}
use Rattle.segment_cuts.specs.declared.mark.Mark.{Mark}
use Rattle.segment_cuts.specs.declared.mark.Spot.{Spot}
use Rattle.segment_cuts.specs.declared.mark.Spot.TheVariants.{EndOne, EndTwo, Clamp, CutOne, CutTwo}

-- the marks of a segment: not too many, none too far, each with an identifier of its own, and no cut at the length of another mark
pub record AreMarks (marks : List Mark) : Type 0 where
  pub few : length marks ≤ most_marks
  pub within : All (λ (m : Mark). m.length.mm ≤ most_length) marks
  pub different : AllPairs (λ (m n : Mark). ¬ (m.id ≡ n.id)) marks
  pub apart : AllPairs (λ (m n : Mark). m.length ≡ n.length → (m.divides ≡ false) × (n.divides ≡ false)) marks

-- a mark with this identifier is a cut (true) or a clamp (false)
abbrev pub HasMark : List Mark → Id → Bool → Type 0
HasMark marks id divides = (m : Mark) × Contains marks m × (m.id ≡ id) × (m.divides ≡ divides)

-- on a segment stand its two terminals, the terminals of its clamps, and both sides of its cuts
abbrev pub IsOn : List Mark → Spot → Type 0
IsOn marks EndOne = Unit {0}
IsOn marks EndTwo = Unit {0}
IsOn marks (Clamp id) = HasMark marks id false
IsOn marks (CutOne id) = HasMark marks id true
IsOn marks (CutTwo id) = HasMark marks id true

-- how far the mark with this identifier is from terminal 1
abbrev pub length_of : List Mark → Id → ℕ
length_of [] id = 0
length_of (m ∷ ms) id = cond (m.id.number == id.number) m.length.mm (length_of ms id)

-- spots have ascending numbers from terminal 1 to terminal 2, and a cut's own number stands between those of its sides
abbrev pub number : List Mark → Spot → ℕ
number marks EndOne = 0
number marks EndTwo = 3 * most_length + 4
number marks (Clamp id) = 3 * length_of marks id + 2
number marks (CutOne id) = 3 * length_of marks id + 1
number marks (CutTwo id) = 3 * length_of marks id + 3

abbrev pub cut_number : Mark → ℕ
cut_number cut = 3 * cut.length.mm + 2

-- the number of the mark that a spot belongs to, and 0 for the ends
abbrev pub identifier : Spot → ℕ
identifier EndOne = 0
identifier EndTwo = 0
identifier (Clamp id) = id.number
identifier (CutOne id) = id.number
identifier (CutTwo id) = id.number

-- spots stand in order by number, and those with one number by identifier
abbrev pub Precedes : List Mark → Spot → Spot → Type 0
Precedes marks s t = (number marks s < number marks t) ⊎ ((number marks s ≡ number marks t) × (identifier s < identifier t))

-- a number lies strictly between two others, whichever of these is the greater
abbrev pub LiesBetween : ℕ → ℕ → ℕ → Type 0
LiesBetween n a b = ((a < n) × (n < b)) ⊎ ((b < n) × (n < a))

-- two spots are in one section where no cut's number lies strictly between theirs
abbrev pub ShareSection : List Mark → Spot → Spot → Type 0
ShareSection marks s t = (m : Mark) → Contains marks m → m.divides ≡ true → ¬ (LiesBetween (cut_number m) (number marks s) (number marks t))

-- two spots stand together where one of these lists has both
abbrev pub StandTogether : List (List Spot) → Spot → Spot → Type 0
StandTogether sections s t = (section : List Spot) × Contains sections section × Contains section s × Contains section t

-- the spots of sections, one section after another
abbrev pub all_spots : List (List Spot) → List Spot
all_spots = flat_map (λ (section : List Spot). section)

-- the sections of a segment: all its spots, each once and in order, none of the lists empty, and two spots together exactly where they share a section
pub record AreSections (marks : List Mark) (sections : List (List Spot)) : Type 0 where
  pub complete : (s : Spot) → Contains (all_spots sections) s ↔ IsOn marks s
  pub ordered : AllPairs (Precedes marks) (all_spots sections)
  pub filled : All (λ (section : List Spot). 0 < length section) sections
  pub joined : (s t : Spot) → IsOn marks s → IsOn marks t → StandTogether sections s t ↔ ShareSection marks s t

-- as many sections lie before that of a spot as there are cuts with lesser numbers
abbrev pub section_index : List Mark → Spot → ℕ
section_index marks s = count_by (λ (m : Mark). m.divides && nat_lt (cut_number m) (number marks s)) marks
