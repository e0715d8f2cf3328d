-- Terminals, marks and values of a model, as the rules of the profile speak of them.
use Rattle.std.specs.Prelude.{ℕ, List, [], ◌∷◌, if◌then◌else◌}
use Rattle.std.specs.List.{filter, filter_map}
use Rattle.cim_words.specs.Groups.{is_terminal, is_cut, is_clamp, is_segment}
use Rattle.cim_words.specs.declared.known_prop.KnownProp.{KnownProp}
use Rattle.cim_words.specs.Properties as property
use Rattle.cim_words.specs.declared.object.Object.{Object}
use Rattle.cim_words.specs.declared.statement.Statement.{Statement}
use Rattle.cim_model.specs.Model.{said, naming, is_of, id_said}
use Rattle.cim_model.specs.Values.{number_said, length_said}

-- the terminals of a piece of equipment, and those at a node
abbrev pub terminals_of : List Statement → ℕ → List ℕ
terminals_of m x = filter (is_of m is_terminal) (naming m property.conducting_equipment x)

abbrev pub terminals_at : List Statement → ℕ → List ℕ
terminals_at m x = filter (is_of m is_terminal) (naming m property.connectivity_node x)

-- the cuts and the clamps of a segment
abbrev pub cuts_of : List Statement → ℕ → List ℕ
cuts_of m x = filter (is_of m is_cut) (naming m property.cut_segment x)

abbrev pub clamps_of : List Statement → ℕ → List ℕ
clamps_of m x = filter (is_of m is_clamp) (naming m property.clamp_segment x)

-- the sequence numbers that a terminal states
abbrev pub numbers_of : List Statement → ℕ → List ℕ
numbers_of m x = filter_map number_said (said m x property.sequence_number)

-- the lengths that a segment states
abbrev pub stated_lengths : List Statement → ℕ → List ℕ
stated_lengths m x = if is_of m is_segment x then filter_map length_said (said m x property.conductor_length) else []

-- the length of a cut or a clamp, which is 0 where none is stated
abbrev pub or_zero : List Object → List ℕ
or_zero [] = 0 ∷ []
or_zero (one ∷ more) = filter_map length_said (one ∷ more)

abbrev pub cut_lengths : List Statement → ℕ → List ℕ
cut_lengths m x = or_zero (said m x property.cut_length)

abbrev pub clamp_lengths : List Statement → ℕ → List ℕ
clamp_lengths m x = or_zero (said m x property.clamp_length)

-- the identifiers that a subject's statements name by a property
abbrev pub ids_said : List Statement → ℕ → KnownProp → List ℕ
ids_said m x k = filter_map id_said (said m x k)
