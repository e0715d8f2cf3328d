-- What a model says, read off its list of statements (RDF 1.1; IEC 61970-301 names the classes and properties).
use Rattle.std.specs.Prelude.{ℕ, List, [], ◌∷◌, map, Bool, true, false, ◌&&◌, ◌==◌, if◌then◌else◌, Option, Some, None}
use Rattle.std.specs.List.{filter, filter_map, list_any}
use Rattle.cim_words.specs.Class.{class_of}
use Rattle.cim_words.specs.Groups.{counts_on}
use Rattle.cim_words.specs.KnownProp.{known_row}
use Rattle.cim_words.specs.declared.class.Class.{Class}
use Rattle.cim_words.specs.declared.known_prop.KnownProp.{KnownProp}
use Rattle.cim_words.specs.Properties as property
use Rattle.cim_words.specs.declared.object.Object.{Object}
use Rattle.cim_words.specs.declared.object.Object.TheVariants as object
use Rattle.cim_words.specs.declared.prop.Prop.{Prop}
use Rattle.cim_words.specs.declared.prop.Prop.TheVariants as prop
use Rattle.cim_words.specs.declared.statement.Statement.{Statement}

-- whether a list has nothing
abbrev pub is_empty : {X : Type 0} → List X → Bool
is_empty [] = true
is_empty (x ∷ xs) = false

-- the statements about a subject, and whether there are any
abbrev pub is_about : ℕ → Statement → Bool
is_about x s = s.subject.number == x

abbrev pub about : List Statement → ℕ → List Statement
about m x = filter (is_about x) m

abbrev pub is_subject : List Statement → ℕ → Bool
is_subject m x = list_any (is_about x) m

-- whether a statement speaks of a property
abbrev pub is_property : KnownProp → Prop → Bool
is_property k (prop.Known l) = known_row l == known_row k
is_property k (prop.Other text) = false

abbrev pub is_by : KnownProp → Statement → Bool
is_by k s = is_property k s.prop

-- the objects that statements say by a property, and those that they say of a subject
abbrev pub said_in : List Statement → KnownProp → List Object
said_in statements k = map (λ (s : Statement). s.object) (filter (is_by k) statements)

abbrev pub said : List Statement → ℕ → KnownProp → List Object
said m x k = said_in (about m x) k

-- whether an object is this identifier
abbrev pub is_id : ℕ → Object → Bool
is_id x (object.Id id) = id.number == x
is_id x (object.Name text) = false
is_id x (object.Text text) = false

-- the subjects that name another by a property
abbrev pub is_naming : KnownProp → ℕ → Statement → Bool
is_naming k x s = is_by k s && is_id x s.object

abbrev pub naming : List Statement → KnownProp → ℕ → List ℕ
naming m k x = map (λ (s : Statement). s.subject.number) (filter (is_naming k x) m)

-- the identifier that a statement names by a property
abbrev pub id_said : Object → Option ℕ
id_said (object.Id id) = Some id.number
id_said (object.Name text) = None
id_said (object.Text text) = None

abbrev pub named_by : KnownProp → Statement → Option ℕ
named_by k s = if is_by k s then id_said s.object else None

-- the classes that the type statements of a subject name
abbrev pub class_named : Object → Option Class
class_named (object.Name text) = Some (class_of text)
class_named (object.Id id) = None
class_named (object.Text text) = None

abbrev pub types : List Statement → ℕ → List Class
types m x = filter_map class_named (said m x property.rdf_type)

-- whether a subject is of a class that passes a test
abbrev pub is_of : List Statement → (Class → Bool) → ℕ → Bool
is_of m test x = list_any test (types m x)

-- whether a property counts on a subject: it is of a class of its row, and elsewhere the property is carried without effect
abbrev pub counts : List Statement → ℕ → KnownProp → Bool
counts m x k = is_of m (counts_on k) x

-- the subjects of a model, each once; in an ordered list ascending
abbrev pub subjects : List Statement → List ℕ
subjects [] = []
subjects (s ∷ rest) = if is_subject rest s.subject.number then subjects rest else s.subject.number ∷ subjects rest
