-- Values in the forms of the profile: what an object says where it is read as one.
use Rattle.std.specs.Prelude.{ℕ, ◌==◌, Bool, false, Option, Some, None}
use Rattle.cim_words.specs.Length.{length_of}
use Rattle.cim_words.specs.PhaseNames.{code_iri_set, kind_iri_set}
use Rattle.cim_words.specs.Values.{sequence_number, truth_of}
use Rattle.cim_words.specs.declared.identifier.Id.{Id}
use Rattle.cim_words.specs.declared.length.Length.{Length}
use Rattle.cim_words.specs.declared.object.Object.{Object}
use Rattle.cim_words.specs.declared.object.Object.TheVariants as object
use Rattle.cim_words.specs.declared.phases.PhaseSet.{PhaseSet}

-- the number of an identifier, and the identifier of a number
abbrev pub number_of_id : Id → ℕ
number_of_id id = id.number

abbrev pub as_id : ℕ → Id
as_id n = record { number = n }

-- whether an identifier is there and is this
abbrev pub is_some_id : ℕ → Option Id → Bool
is_some_id x None = false
is_some_id x (Some id) = id.number == x

-- the millimetres of a length, and the length of so many
abbrev pub mm_of : Length → ℕ
mm_of length = length.mm

abbrev pub as_length : ℕ → Length
as_length n = record { mm = n }

-- the sequence number, the length in millimetres and the truth value that an object says
abbrev pub number_said : Object → Option ℕ
number_said (object.Text text) = sequence_number text
number_said (object.Id id) = None
number_said (object.Name text) = None

abbrev pub length_said : Object → Option ℕ
length_said (object.Text text) = length_of text
length_said (object.Id id) = None
length_said (object.Name text) = None

abbrev pub truth_said : Object → Option Bool
truth_said (object.Text text) = truth_of text
truth_said (object.Id id) = None
truth_said (object.Name text) = None

-- the phases that an object names by a code, and the one phase that it names as a kind
abbrev pub code_said : Object → Option PhaseSet
code_said (object.Name text) = code_iri_set text
code_said (object.Id id) = None
code_said (object.Text text) = None

abbrev pub kind_said : Object → Option PhaseSet
kind_said (object.Name text) = kind_iri_set text
kind_said (object.Id id) = None
kind_said (object.Text text) = None
