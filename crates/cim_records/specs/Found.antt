-- What is found in a table under an identifier.
use Rattle.std.specs.Prelude.{ℕ, List, [], ◌==◌, Option, unwrap_or}
use Rattle.std.specs.Map.{lookup}
use Rattle.cim_words.specs.declared.identifier.Id.{Id}
use Rattle.cim_records.specs.Subject.{subject_in}
use Rattle.cim_records.specs.declared.subject.Subject.{Subject}

-- the value of the entry with an identifier
abbrev pub found : {V : Type 0} → List (Id × V) → ℕ → Option V
found entries x = lookup (λ (key : Id). x == key.number) entries

-- the list under an identifier, where there is none nothing
abbrev pub members : {V : Type 0} → List (Id × List V) → ℕ → List V
members entries x = unwrap_or (found entries x) []

-- what is known of an identifier, which is nothing where it is no subject
abbrev pub known_of : List (Id × Subject) → ℕ → Subject
known_of entries x = unwrap_or (found entries x) (subject_in [])
