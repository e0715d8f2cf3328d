-- What the statements about one subject say of it.
use Rattle.std.specs.Prelude.{ℕ, List, [], map, Bool, if◌then◌else◌, Option, Some, None, option_map, unwrap_or}
use Rattle.std.specs.List.{filter_map}
use Rattle.cim_words.specs.Groups.{counts_on, is_cut}
use Rattle.cim_words.specs.declared.class.Class.{Class}
use Rattle.cim_words.specs.declared.identifier.Id.{Id}
use Rattle.cim_words.specs.declared.known_prop.KnownProp.{KnownProp}
use Rattle.cim_words.specs.Properties as property
use Rattle.cim_words.specs.declared.object.Object.{Object}
use Rattle.cim_words.specs.declared.phases.PhaseSet.{PhaseSet}
use Rattle.cim_words.specs.declared.statement.Statement.{Statement}
use Rattle.cim_model.specs.Model.{about, class_named, id_said, said_in, subjects}
use Rattle.cim_model.specs.Network.{first, is_class, or_else}
use Rattle.cim_model.specs.Values.{as_id, as_length, number_said, length_said, truth_said, code_said, kind_said}
use Rattle.segment_cuts.specs.declared.mark.Mark.{Mark}
use Rattle.cim_records.specs.declared.subject.Subject.{Subject}

-- what an object says, where there is one
abbrev pub read_of : {V : Type 0} → (Object → Option V) → Option Object → Option V
read_of reads None = None
read_of reads (Some object) = reads object

-- the class that the statements about a subject name
abbrev pub class_said : List Statement → Option Class
class_said statements = first (filter_map class_named (said_in statements property.rdf_type))

-- the objects that they say by a property, where it counts on a class
abbrev pub counted : Option Class → List Statement → KnownProp → List Object
counted class statements k = if is_class (counts_on k) class then said_in statements k else []

-- the value that the first of these states
abbrev pub value_in : {V : Type 0} → (Object → Option V) → Option Class → List Statement → KnownProp → Option V
value_in reads class statements k = read_of reads (first (counted class statements k))

-- whether a switch is open, the equipment that a phase object names, and the phase that it states
abbrev pub open_in : Option Class → List Statement → Bool
open_in class statements = unwrap_or (value_in truth_said class statements property.switch_open) (unwrap_or (value_in truth_said class statements property.normal_open) (is_class is_cut class))

abbrev pub equipment_in : Option Class → List Statement → Option ℕ
equipment_in class statements =
    or_else (value_in id_said class statements property.segment_of_phase) (or_else (value_in id_said class statements property.consumer_of_phase) (value_in id_said class statements property.switch_of_phase))

abbrev pub phase_in : Option Class → List Statement → Option PhaseSet
phase_in class statements =
    or_else (value_in kind_said class statements property.segment_phase) (or_else (value_in kind_said class statements property.consumer_phase) (value_in kind_said class statements property.phase_side_1))

-- the segment of a clamp or a cut, and how far it is from the segment's terminal 1
abbrev pub segment_in : Option Class → List Statement → Option ℕ
segment_in class statements = or_else (value_in id_said class statements property.clamp_segment) (value_in id_said class statements property.cut_segment)

abbrev pub mark_length_in : Option Class → List Statement → ℕ
mark_length_in class statements =
    unwrap_or (or_else (value_in length_said class statements property.clamp_length) (value_in length_said class statements property.cut_length)) 0

-- what statements say of their subject, whose class is known
abbrev pub subject_of : Option Class → List Statement → Subject
subject_of class statements = record {
  class = class;
  owner = option_map as_id (value_in id_said class statements property.conducting_equipment);
  node = option_map as_id (value_in id_said class statements property.connectivity_node);
  phases = value_in code_said class statements property.phases;
  number = value_in number_said class statements property.sequence_number;
  length = option_map as_length (value_in length_said class statements property.conductor_length);
  is_open = open_in class statements;
  equipment = option_map as_id (equipment_in class statements);
  phase = phase_in class statements;
  segment = option_map as_id (segment_in class statements);
  mark_length = as_length (mark_length_in class statements);
}

-- what they say of it, its class among that
abbrev pub subject_in : List Statement → Subject
subject_in statements = subject_of (class_said statements) statements

-- a subject as a mark of its segment; a cut divides it
abbrev pub mark_of : Id → Subject → Mark
mark_of id subject = record { id = id; length = subject.mark_length; divides = is_class is_cut subject.class }

-- each subject of a model with what is said of it
abbrev pub record_in : List Statement → ℕ → Id × Subject
record_in m x = (as_id x, subject_in (about m x))

abbrev pub records : List Statement → List (Id × Subject)
records m = map (record_in m) (subjects m)
