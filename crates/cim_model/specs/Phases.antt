-- Sets of phases, phase by phase.
use Rattle.std.specs.Prelude.{◌≡◌, ◌⊎◌, List, Bool, true, false, not, IsTrue}
use Rattle.std.specs.List.{list_any}
use Rattle.cim_words.specs.Phases.{has_phase}
use Rattle.cim_words.specs.declared.phases.Phase.{Phase}
use Rattle.cim_words.specs.declared.phases.Phase.TheVariants as phase
use Rattle.cim_words.specs.declared.phases.PhaseSet.{PhaseSet}

-- the set of the phases that pass a test
abbrev pub set_of : (Phase → Bool) → PhaseSet
set_of test = record { a = test phase.A; b = test phase.B; c = test phase.C; n = test phase.N; s1 = test phase.S1; s2 = test phase.S2 }

-- the phases of a line, and those of a secondary (IEC 61970-301, SinglePhaseKind)
abbrev pub is_line_phase : Phase → Bool
is_line_phase phase.A = true
is_line_phase phase.B = true
is_line_phase phase.C = true
is_line_phase _ = false

abbrev pub is_secondary_phase : Phase → Bool
is_secondary_phase phase.S1 = true
is_secondary_phase phase.S2 = true
is_secondary_phase _ = false

abbrev pub is_neutral : Phase → Bool
is_neutral phase.N = true
is_neutral _ = false

abbrev pub no_phases : PhaseSet
no_phases = set_of (λ p. false)

abbrev pub line_phases : PhaseSet
line_phases = set_of is_line_phase

-- the phases that some set of a list has
abbrev pub union : List PhaseSet → PhaseSet
union sets = set_of (λ p. list_any (λ set. has_phase set p) sets)

-- What a transformer passes from a phase of one terminal to a phase of another, of this project: each phase but the neutral to
-- itself, and a phase of a line to both phases of a secondary.
abbrev pub Transforms : Phase → Phase → Type 0
Transforms p q = ((p ≡ q) × IsTrue (not (is_neutral p))) ⊎ (IsTrue (is_line_phase p) × IsTrue (is_secondary_phase q))
