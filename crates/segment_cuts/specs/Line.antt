-- The line of the spots of a segment, of this project.
use Rattle.std.specs.Prelude.{ℕ, ◌≡◌, ◌<◌, ◌+◌, ◌*◌, ◌↔◌, Bool, true, false, cond, List, [], ◌∷◌, length, Contains, slice_index_or, map}
use Rattle.std.specs.List.{All, AllPairs}
use Rattle.segment_cuts.specs.declared.mark.Mark.{Mark}
use Rattle.segment_cuts.specs.declared.mark.Spot.{Spot}
use Rattle.segment_cuts.specs.declared.mark.Spot.TheVariants.{Clamp, CutOne, CutTwo}
use Rattle.segment_cuts.specs.declared.line.Placed.{Placed}
use Rattle.segment_cuts.specs.Sections.{IsOn, Precedes, all_spots}

-- a line has all spots of a segment, each once and in order
pub record IsLine (marks : List Mark) (line : List Spot) : Type 0 where
  pub complete : (s : Spot) → Contains line s ↔ IsOn marks s
  pub ordered : AllPairs (Precedes marks) line

-- the spots of a line
abbrev pub spots : List Placed → List Spot
spots = map (λ (p : Placed). p.spot)

-- a spot with which a section begins
abbrev pub begins : Spot → Bool
begins (CutTwo id) = true
begins _ = false

-- levels begin at 0, and rise by one with each spot that begins a section
pub record Rises (level : Spot → ℕ) (line : List Spot) : Type 0 where
  pub first : (d : Spot) → 0 < length line → (level (slice_index_or line 0 d) ≡ 0) × (begins (slice_index_or line 0 d) ≡ false)
  pub next : (i : ℕ) (d : Spot) → i + 1 < length line → level (slice_index_or line (i + 1) d) ≡ level (slice_index_or line i d) + cond (begins (slice_index_or line (i + 1) d)) 1 0

-- each section stands at its own level
abbrev pub AreLevels : (Spot → ℕ) → List (List Spot) → Type 0
AreLevels level sections = (i : ℕ) (d : List Spot) → i < length sections → All (λ (s : Spot). level s ≡ i) (slice_index_or sections i d)

-- a line is cut up into sections: they are the whole line, and where levels rise along it, none is empty and each stands at its own
pub record IsCutUp (line : List Spot) (sections : List (List Spot)) : Type 0 where
  pub whole : all_spots sections ≡ line
  pub filled : (level : Spot → ℕ) → Rises level line → All (λ (section : List Spot). 0 < length section) sections
  pub levels : (level : Spot → ℕ) → Rises level line → AreLevels level sections

-- the spots of a mark, as they are placed
abbrev pub placed_at : Mark → ℕ → Spot → Placed
placed_at mark offset spot = record { number = 3 * mark.length.mm + offset; id = mark.id; spot = spot }

abbrev pub placed_of : Mark → List Placed
placed_of mark = cond mark.divides (placed_at mark 1 (CutOne mark.id) ∷ placed_at mark 3 (CutTwo mark.id) ∷ []) (placed_at mark 2 (Clamp mark.id) ∷ [])
