-- The terminals that stand on a segment, spot by spot, and the sections into which its cuts divide it.
use Rattle.std.specs.Prelude.{ℕ, ◌≡◌, List, ◌∷◌, Option, Some, None}
use Rattle.cim_words.specs.declared.statement.Statement.{Statement}
use Rattle.cim_model.specs.Live.{terms_of}
use Rattle.cim_model.specs.Marks.{marks_on}
use Rattle.cim_model.specs.Network.{first}
use Rattle.room_words.specs.declared.overlay.Overlay.{Overlay}
use Rattle.room_words.specs.declared.term.Term.{Term}
use Rattle.segment_cuts.specs.Sections.{IsOn, ShareSection}
use Rattle.segment_cuts.specs.declared.mark.Spot.{Spot}
use Rattle.segment_cuts.specs.declared.mark.Spot.TheVariants.{EndOne, EndTwo, Clamp, CutOne, CutTwo}

-- the second of a list, where it has one
abbrev pub second : {X : Type 0} → List X → Option X
second (x ∷ y ∷ xs) = Some y
second _ = None

-- what owns the terminal at a spot of a segment: the segment itself, a clamp or a cut
abbrev pub spot_owner : ℕ → Spot → ℕ
spot_owner x EndOne = x
spot_owner x EndTwo = x
spot_owner x (Clamp id) = id.number
spot_owner x (CutOne id) = id.number
spot_owner x (CutTwo id) = id.number

-- which of its owner's terminals stands at a spot: that of side 1, or that of side 2
abbrev pub of_side : {X : Type 0} → Spot → List X → Option X
of_side EndOne terms = first terms
of_side EndTwo terms = second terms
of_side (Clamp id) terms = first terms
of_side (CutOne id) terms = first terms
of_side (CutTwo id) terms = second terms

abbrev pub term_at : List Statement → Overlay → ℕ → Spot → Option Term
term_at m o x s = of_side s (terms_of m o (spot_owner x s))

-- a terminal stands at a spot of a segment
pub record StandsAtSpot (m : List Statement) (o : Overlay) (x : ℕ) (t : Term) (s : Spot) : Type 0 where
  pub on : IsOn (marks_on m o x) s
  pub terminal : term_at m o x s ≡ Some t

-- two terminals stand in one section of a segment: no cut of it lies between their spots
abbrev pub InOneSection : List Statement → Overlay → ℕ → Term → Term → Type 0
InOneSection m o x t u =
    (s v : Spot) × StandsAtSpot m o x t s × StandsAtSpot m o x u v × ShareSection (marks_on m o x) s v
