-- Sets of phases, and their texts.
use Rattle.std.specs.Prelude.{ℕ, List, [], ◌∷◌, Bool, true, false, not, ◌||◌, if◌then◌else◌, codes}
use Rattle.std.specs.List.{concat}
use Rattle.cim_words.specs.declared.phases.Phase.{Phase}
use Rattle.cim_words.specs.declared.phases.Phase.TheVariants.{A, B, C, N, S1, S2}
use Rattle.cim_words.specs.declared.phases.PhaseSet.{PhaseSet}

-- Whether a set holds a phase (IEC 61970-301, SinglePhaseKind).
abbrev pub has_phase : PhaseSet → Phase → Bool
has_phase set A = set.a
has_phase set B = set.b
has_phase set C = set.c
has_phase set N = set.n
has_phase set S1 = set.s1
has_phase set S2 = set.s2

-- Whether a set holds no phase.
abbrev pub has_no_phase : PhaseSet → Bool
has_no_phase set = not (set.a || set.b || set.c || set.n || set.s1 || set.s2)

-- A part of a text where it is wanted, and otherwise nothing.
abbrev pub text_if : Bool → List ℕ → List ℕ
text_if wanted part = if wanted then part else []

-- The secondary phases as text.
abbrev pub secondary_text : Bool → Bool → List ℕ
secondary_text true true = codes "s12"
secondary_text true false = codes "s1"
secondary_text false true = codes "s2"
secondary_text false false = []

-- The text of a set, of this project: the letters of its phases in the order A, B, C, s1, s2, N, where s1 and s2 together are `s12`; of the empty set `-`.
unfoldable pub phase_text : PhaseSet → List ℕ
phase_text set =
    concat (text_if set.a (codes "A") ∷ text_if set.b (codes "B") ∷ text_if set.c (codes "C") ∷ secondary_text set.s1 set.s2
    ∷ text_if set.n (codes "N") ∷ text_if (has_no_phase set) (codes "-") ∷ [])
