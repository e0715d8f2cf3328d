-- The network that a model states: classes, terminals, nodes, positions and phases, read off the list of its statements
-- (IEC 61970-301: a Terminal joins one piece of ConductingEquipment to a ConnectivityNode).
use Rattle.std.specs.Prelude.{ℕ, List, [], ◌∷◌, ◌++◌, map, Bool, false, not, ◌&&◌, ◌||◌, ◌==◌, if◌then◌else◌, Option, Some, None, is_some, unwrap_or}
use Rattle.std.specs.List.{filter, filter_map, list_any}
use Rattle.cim_words.specs.Groups.{is_terminal, is_node, is_segment, is_cut, is_equipment_class}
use Rattle.cim_words.specs.declared.class.Class.{Class}
use Rattle.cim_words.specs.declared.known_prop.KnownProp.{KnownProp}
use Rattle.cim_words.specs.Properties as property
use Rattle.cim_words.specs.declared.object.Object.{Object}
use Rattle.cim_words.specs.declared.phases.PhaseSet.{PhaseSet}
use Rattle.cim_words.specs.declared.statement.Statement.{Statement}
use Rattle.cim_model.specs.Model.{is_empty, said, naming, types, is_of, is_subject, subjects, counts, id_said}
use Rattle.cim_model.specs.Phases.{no_phases, line_phases, union}
use Rattle.cim_model.specs.Stated.{terminals_of}
use Rattle.cim_model.specs.Values.{number_said, length_said, truth_said, code_said, kind_said}

-- the first of a list, where it has one
abbrev pub first : {X : Type 0} → List X → Option X
first [] = None
first (x ∷ xs) = Some x

-- the first value that is there
abbrev pub or_else : {X : Type 0} → Option X → Option X → Option X
or_else None other = other
or_else (Some x) other = Some x

-- the class that a subject's type statement names
abbrev pub class_in : List Statement → ℕ → Option Class
class_in m x = first (types m x)

-- what a subject says by a property that counts on it, read in a form; a model without fault says one value at most
abbrev pub value_of : {V : Type 0} → (Object → Option V) → List Statement → ℕ → KnownProp → Option V
value_of reads m x k = if counts m x k then first (filter_map reads (said m x k)) else None

-- the equipment and the node of a terminal, the phases that it states, and its number
abbrev pub owner_of : List Statement → ℕ → Option ℕ
owner_of m t = value_of id_said m t property.conducting_equipment

abbrev pub node_of : List Statement → ℕ → Option ℕ
node_of m t = value_of id_said m t property.connectivity_node

abbrev pub stated_phases : List Statement → ℕ → Option PhaseSet
stated_phases m t = value_of code_said m t property.phases

abbrev pub number_of : List Statement → ℕ → Option ℕ
number_of m t = value_of number_said m t property.sequence_number

-- the length that a segment states, in millimetres
abbrev pub length_in : List Statement → ℕ → Option ℕ
length_in m x = value_of length_said m x property.conductor_length

-- whether a switch is open: as stated, else as it normally is, else a cut is open and every other switch closed
abbrev pub open_of : List Statement → ℕ → Bool
open_of m x = unwrap_or (value_of truth_said m x property.switch_open) (unwrap_or (value_of truth_said m x property.normal_open) (is_of m is_cut x))

-- equipment is a subject that is of a class of equipment or has a terminal
abbrev pub is_equipment : List Statement → ℕ → Bool
is_equipment m x = is_subject m x && (is_of m is_equipment_class x || not (is_empty (terminals_of m x)))

-- all equipment and all nodes, in an ordered model ascending
abbrev pub equipment : List Statement → List ℕ
equipment m = filter (is_equipment m) (subjects m)

abbrev pub nodes : List Statement → List ℕ
nodes m = filter (is_of m is_node) (subjects m)

-- whether a number is there, and this one
abbrev pub is_some_number : ℕ → Option ℕ → Bool
is_some_number n None = false
is_some_number n (Some stated) = stated == n

-- terminals by side: side 1 is the terminal with the number 1, side 2 the one with the number 2; where none states a number, in ascending order
abbrev pub with_number : List Statement → ℕ → List ℕ → List ℕ
with_number m n ts = filter (λ t. is_some_number n (number_of m t)) ts

abbrev pub by_side : List Statement → List ℕ → List ℕ
by_side m ts = if list_any (λ t. is_some (number_of m t)) ts then with_number m 1 ts ++ with_number m 2 ts else ts

-- the terminals of a piece of equipment: those of a segment and of a cut by side, others in ascending order
abbrev pub has_sides : Class → Bool
has_sides c = is_segment c || is_cut c

abbrev pub terminals_by_side : List Statement → ℕ → List ℕ
terminals_by_side m x = if is_of m has_sides x then by_side m (terminals_of m x) else terminals_of m x

-- the equipment that a phase object names, and the phase that it states (of a switch's phase, that of side 1)
abbrev pub equipment_of : List Statement → ℕ → Option ℕ
equipment_of m y = or_else (value_of id_said m y property.segment_of_phase) (or_else (value_of id_said m y property.consumer_of_phase) (value_of id_said m y property.switch_of_phase))

abbrev pub part_phase : List Statement → ℕ → Option PhaseSet
part_phase m y = or_else (value_of kind_said m y property.segment_phase) (or_else (value_of kind_said m y property.consumer_phase) (value_of kind_said m y property.phase_side_1))

-- the phase objects of a piece of equipment: those that name it by a property that counts on them
abbrev pub naming_by : List Statement → KnownProp → ℕ → List ℕ
naming_by m k x = filter (λ y. counts m y k) (naming m k x)

abbrev pub parts_of : List Statement → ℕ → List ℕ
parts_of m x = naming_by m property.segment_of_phase x ++ naming_by m property.consumer_of_phase x ++ naming_by m property.switch_of_phase x

-- the phases that they state
abbrev pub part_phases : List Statement → ℕ → List PhaseSet
part_phases m x = filter_map (part_phase m) (parts_of m x)

-- the union of some sets of phases, or another set where there are none
abbrev pub union_or : List PhaseSet → PhaseSet → PhaseSet
union_or sets other = if is_empty sets then other else union sets

-- the phases of equipment, as its terminals take them: those of its phase objects that state one, else A, B and C
abbrev pub owner_phases : List Statement → Option ℕ → PhaseSet
owner_phases m None = line_phases
owner_phases m (Some x) = union_or (part_phases m x) line_phases

-- the phases of a terminal: those that it states, else those of its equipment; what is no terminal has none
abbrev pub phases_of : List Statement → ℕ → PhaseSet
phases_of m t = if is_of m is_terminal t then unwrap_or (stated_phases m t) (owner_phases m (owner_of m t)) else no_phases

-- the phases of a segment: those of its phase objects that state one, else those of its terminals
abbrev pub segment_phases : List Statement → ℕ → PhaseSet
segment_phases m x = union_or (part_phases m x) (union (map (phases_of m) (terminals_of m x)))

-- the segment of a cut or a clamp, and how far it is from the segment's terminal 1, in millimetres: as stated, else at it
abbrev pub segment_of : List Statement → ℕ → Option ℕ
segment_of m y = or_else (value_of id_said m y property.clamp_segment) (value_of id_said m y property.cut_segment)

abbrev pub mark_length : List Statement → ℕ → ℕ
mark_length m y = unwrap_or (or_else (value_of length_said m y property.clamp_length) (value_of length_said m y property.cut_length)) 0

-- whether a class is there and passes a test
abbrev pub is_class : (Class → Bool) → Option Class → Bool
is_class test None = false
is_class test (Some c) = test c
