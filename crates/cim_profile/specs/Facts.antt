-- What the tables over a model hold.
use Rattle.std.specs.Prelude.{ℕ, ◌≡◌, List, map, Bool, false, Option, Some, None, option_map}
use Rattle.std.specs.List.{filter_map, list_any}
use Rattle.cim_words.specs.Groups as groups
use Rattle.cim_words.specs.declared.class.Class.{Class}
use Rattle.cim_words.specs.declared.identifier.Id.{Id}
use Rattle.cim_words.specs.declared.known_prop.KnownProp.{KnownProp}
use Rattle.cim_words.specs.Properties as property
use Rattle.cim_words.specs.declared.length.Length.{Length}
use Rattle.cim_words.specs.declared.object.Object.{Object}
use Rattle.cim_words.specs.declared.statement.Statement.{Statement}
use Rattle.cim_model.specs.Model.{said, naming, named_by, is_empty, is_of}
use Rattle.cim_model.specs.Values.{as_id, as_length, length_said, number_of_id}
use Rattle.cim_profile.specs.Table.{values_at}
use Rattle.cim_profile.specs.declared.table.Row.{Row}
use Rattle.cim_profile.specs.declared.kind.Kind.{Kind}
use Rattle.cim_profile.specs.declared.kind.Kind.TheVariants as kind

-- the test of a class that a kind stands for
abbrev pub kind_test : Kind → Class → Bool
kind_test kind.Terminal = groups.is_terminal
kind_test kind.Node = groups.is_node
kind_test kind.Segment = groups.is_segment
kind_test kind.Cut = groups.is_cut
kind_test kind.Clamp = groups.is_clamp
kind_test kind.Single = groups.is_single
kind_test kind.TwoEnded = groups.has_two_ends
kind_test kind.Part = groups.is_part
kind_test kind.SwitchPhase = groups.is_switch_phase
kind_test kind.Known = groups.is_known_class
kind_test (kind.Carrying k) = groups.counts_on k

-- the length that an object says
abbrev pub length_read : Object → Option Length
length_read o = option_map as_length (length_said o)

-- the row of a statement, as its object is read, and that of one that names another subject by a property
abbrev pub row_read : {V : Type 0} → (Object → V) → Statement → Row V
row_read reads s = record { key = s.subject; value = reads s.object }

abbrev pub naming_row : KnownProp → Statement → Option (Row Id)
naming_row k s = option_map (λ (n : ℕ). record { key = as_id n; value = s.subject }) (named_by k s)

-- the rows of a subject hold what its statements by a property say, as it is read
abbrev pub Holds : {V : Type 0} → (Object → V) → KnownProp → List Statement → List (Row V) → Type 0
Holds reads k m rows = (x : ℕ) → values_at rows x ≡ map reads (said m x k)

-- the rows of an identifier hold the subjects that name it by a property
abbrev pub HoldsNaming : KnownProp → List Statement → List (Row Id) → Type 0
HoldsNaming k m rows = (x : ℕ) → map number_of_id (values_at rows x) ≡ naming m k x

-- whether a value is there and passes a test
abbrev pub is_present_and : {V : Type 0} → (V → Bool) → Option V → Bool
is_present_and test None = false
is_present_and test (Some value) = test value

-- what is there among values that may be missing
abbrev pub present : {V : Type 0} → List (Option V) → List V
present {V} values = filter_map (λ (value : Option V). value) values

-- values name the classes that the type statements of a subject name, however often, and there are some where it has any
pub record NameTypes (m : List Statement) (x : ℕ) (values : List (Option Class)) : Type 0 where
  pub any : (test : Class → Bool) → list_any test (present values) ≡ is_of m test x
  pub empty : is_empty values ≡ is_empty (said m x property.rdf_type)

-- the rows of a subject name the classes that its type statements name
abbrev pub HoldsTypes : List Statement → List (Row (Option Class)) → Type 0
HoldsTypes m rows = (x : ℕ) → NameTypes m x (values_at rows x)
