-- The names of phase codes and of single phases (IEC 61970-301, PhaseCode and SinglePhaseKind), and the IRIs that end in them.
use Rattle.std.specs.Prelude.{ℕ, List, ◌∷◌, [], ◌++◌, length, take, drop, Option, Some, None, if◌then◌else◌, find, codes, bytes_eq}
use Rattle.cim_words.specs.Class.{cim_namespace}
use Rattle.cim_words.specs.Phases.{phase_text}
use Rattle.cim_words.specs.declared.phases.PhaseSet.{PhaseSet}
use Rattle.cim_words.specs.declared.phase_names.TheConstants.{PHASE_CODES, PHASE_KINDS}

-- the names of phase codes that name a phase, in the order of the table
unfoldable pub code_names : List (List ℕ)
code_names =
    codes "ABCN" ∷ codes "ABC" ∷ codes "ABN" ∷ codes "ACN" ∷ codes "BCN" ∷ codes "AB" ∷ codes "AC" ∷ codes "BC" ∷ codes "AN" ∷ codes "BN" ∷ codes "CN" ∷ codes "A"
    ∷ codes "B" ∷ codes "C" ∷ codes "N" ∷ codes "s1" ∷ codes "s2" ∷ codes "s12" ∷ codes "s1N" ∷ codes "s2N" ∷ codes "s12N" ∷ []

-- the names of single phases that name a phase, in the order of the table
unfoldable pub kind_names : List (List ℕ)
kind_names = codes "A" ∷ codes "B" ∷ codes "C" ∷ codes "N" ∷ codes "s1" ∷ codes "s2" ∷ []

-- the phases that a code names, which is the text of the set
unfoldable pub code_set : List ℕ → Option PhaseSet
code_set name = find (λ set. bytes_eq (phase_text set) name) PHASE_CODES

-- the one phase that a kind names
unfoldable pub kind_set : List ℕ → Option PhaseSet
kind_set name = find (λ set. bytes_eq (phase_text set) name) PHASE_KINDS

-- what follows a prefix of a text, where the text begins with it
abbrev pub behind : List ℕ → List ℕ → Option (List ℕ)
behind prefix text = if bytes_eq (take (length prefix) text) prefix then Some (drop (length prefix) text) else None

abbrev pub and_then : {A B : Type 0} → Option A → (A → Option B) → Option B
and_then None f = None
and_then (Some a) f = f a

-- the phases that an IRI names by `PhaseCode.` and a code, or by `SinglePhaseKind.` and a kind
unfoldable pub code_iri_set : List ℕ → Option PhaseSet
code_iri_set iri = and_then (behind (cim_namespace ++ codes "PhaseCode.") iri) code_set

unfoldable pub kind_iri_set : List ℕ → Option PhaseSet
kind_iri_set iri = and_then (behind (cim_namespace ++ codes "SinglePhaseKind.") iri) kind_set
