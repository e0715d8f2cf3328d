-- What a subject's statements say, and which subjects name another.
use Rattle.std.proofs.Common.{◌≡◌, ℕ, inl, inr, List, [], ◌∷◌, Bool, true, false, ◌==◌, cond, Option, Some, None, refl, ap, ◌∙◌, subst}
use Rattle.std.specs.List.{filter, filter_map}
use Rattle.std.proofs.lemmas.Option.{same_Some}
use Rattle.std.proofs.lemmas.Bool.{and_from, eqb-true, false_from_ne_true}
use Rattle.plain_laws.proofs.Members.{Among, among_filter, among_filter_passes, among_map, filter_among, filter_map_among, map_among}
use Rattle.plain_laws.proofs.Numbers.{equal_itself}
use Rattle.plain_laws.proofs.Tests.{among_any, any_among}
use Rattle.plain_laws.proofs.Truth.{and_first, and_second}
use Rattle.cim_words.specs.declared.class.Class.{Class}
use Rattle.cim_words.specs.declared.known_prop.KnownProp.{KnownProp}
use Rattle.cim_words.specs.Properties as property
use Rattle.cim_words.specs.declared.object.Object.{Object}
use Rattle.cim_words.specs.declared.object.Object.TheVariants as object
use Rattle.cim_words.specs.declared.statement.Statement.{Statement}
use Rattle.cim_model.specs.Model.{about, counts, id_said, is_about, is_by, is_id, is_naming, is_of, is_subject, class_named, naming, said, types}
use Rattle.cim_model.specs.Network.{first, value_of}

-- a statement says this of a subject by a property
pub record IsSaid (m : List Statement) (x : ℕ) (k : KnownProp) (o : Object) : Type 0 where
  pub statement : Statement
  pub stands : Among m statement
  pub about : is_about x statement ≡ true
  pub by : is_by k statement ≡ true
  pub says : statement.object ≡ o

pub said_by : (m : List Statement) (x : ℕ) (k : KnownProp) (o : Object) → Among (said m x k) o → IsSaid m x k o
said_by m x k o h =
    let from = map_among (λ (s : Statement). s.object) (filter (is_by k) (filter (is_about x) m)) o h in
    let own = filter_among (is_by k) (filter (is_about x) m) from.0 from.1 in
    record {
      statement = from.0;
      stands = filter_among (is_about x) m from.0 own;
      about = among_filter_passes (is_about x) m from.0 own;
      by = among_filter_passes (is_by k) (filter (is_about x) m) from.0 from.1;
      says = from.2;
    }

pub by_said : (m : List Statement) (x : ℕ) (k : KnownProp) (s : Statement) → Among m s → is_about x s ≡ true → is_by k s ≡ true → Among (said m x k) s.object
by_said m x k s stands about by =
    among_map (λ (t : Statement). t.object) (filter (is_by k) (filter (is_about x) m)) s
    (among_filter (is_by k) (filter (is_about x) m) s (among_filter (is_about x) m s stands about) by)

-- what something is said of is a subject
pub said_subject : (m : List Statement) (x : ℕ) (k : KnownProp) (o : Object) → Among (said m x k) o → is_subject m x ≡ true
said_subject m x k o h = let from = said_by m x k o h in among_any (is_about x) m from.statement from.stands from.about

-- to be this identifier is to say its number
pub is_id_said : (x : ℕ) (o : Object) → is_id x o ≡ true → id_said o ≡ Some x
is_id_said x (object.Id id) h = ap (λ (n : ℕ). Some n) (eqb-true id.number x h)
is_id_said x (object.Name text) h = absurd cc
is_id_said x (object.Text text) h = absurd cc

pub id_said_is : (x : ℕ) (o : Object) → id_said o ≡ Some x → is_id x o ≡ true
id_said_is x (object.Id id) h = ap (λ (n : ℕ). n == x) (same_Some id.number x h) ∙ equal_itself x
id_said_is x (object.Name text) h = absurd cc
id_said_is x (object.Text text) h = absurd cc

-- the subjects that name another are those whose statements say it
pub naming_says : (m : List Statement) (k : KnownProp) (x y : ℕ) → Among (naming m k x) y → (o : Object) × Among (said m y k) o × (id_said o ≡ Some x)
naming_says m k x y h =
    let from = map_among (λ (s : Statement). s.subject.number) (filter (is_naming k x) m) y h in
    let names = among_filter_passes (is_naming k x) m from.0 from.1 in
    let about : is_about y from.0 ≡ true = ap (λ (n : ℕ). n == y) from.2 ∙ equal_itself y in
    (from.0.object, by_said m y k from.0 (filter_among (is_naming k x) m from.0 from.1) about (and_first _ _ names), is_id_said x from.0.object (and_second (is_by k from.0) _ names))

pub says_naming : (m : List Statement) (k : KnownProp) (x y : ℕ) (o : Object) → Among (said m y k) o → id_said o ≡ Some x → Among (naming m k x) y
says_naming m k x y o h is =
    let from = said_by m y k o h in
    let names = and_from (is_by k from.statement) (is_id x from.statement.object) from.by (id_said_is x from.statement.object (ap id_said from.says ∙ is)) in
    subst (Among (naming m k x)) (eqb-true from.statement.subject.number y from.about)
    (among_map (λ (s : Statement). s.subject.number) (filter (is_naming k x) m) from.statement (among_filter (is_naming k x) m from.statement from.stands names))

-- what is of a class has a type
pub of_class : (m : List Statement) (test : Class → Bool) (x : ℕ) → is_of m test x ≡ true → (o : Object) × Among (said m x property.rdf_type) o
of_class m test x h =
    let c = any_among test (types m x) h in
    let from = filter_map_among class_named (said m x property.rdf_type) c.0 c.1 in
    (from.0, from.1)

pub of_class_is_subject : (m : List Statement) (test : Class → Bool) (x : ℕ) → is_of m test x ≡ true → is_subject m x ≡ true
of_class_is_subject m test x h = let type = of_class m test x h in said_subject m x property.rdf_type type.0 type.1

-- what is of one class passes just the tests that the class passes
pub class_passes : (m : List Statement) (test : Class → Bool) (x : ℕ) (c : Class) → types m x ≡ c ∷ [] → is_of m test x ≡ true → test c ≡ true
class_passes m test x c is h =
    let from = any_among test (types m x) h in
    class_at test c from.0 (subst (λ (those : List Class). Among those from.0) is from.1) from.2
  where
    class_at : (p : Class → Bool) (own found : Class) → Among (own ∷ []) found → p found ≡ true → p own ≡ true
    class_at p own found (inl same) passes = ap p same ∙ passes
    class_at p own found (inr none) passes = absurd none

pub class_fails : (m : List Statement) (test : Class → Bool) (x : ℕ) (c : Class) → types m x ≡ c ∷ [] → test c ≡ false → is_of m test x ≡ false
class_fails m test x c is fails = false_from_ne_true (is_of m test x) (λ h. let passes = class_passes m test x c is h in absurd cc)

-- a value that is read off what is said
pub first_among : {X : Type 0} (xs : List X) (x : X) → first xs ≡ Some x → Among xs x
first_among [] x h = absurd cc
first_among (y ∷ ys) x h = inl (same_Some y x h)

-- where a value comes from
pub record IsStated {V : Type 0} (reads : Object → Option V) (m : List Statement) (x : ℕ) (k : KnownProp) (v : V) : Type 0 where
  pub counts : counts m x k ≡ true
  pub object : Object
  pub said : Among (said m x k) object
  pub read : reads object ≡ Some v

stated_if : {V : Type 0} (reads : Object → Option V) (m : List Statement) (x : ℕ) (k : KnownProp) (v : V) (b : Bool) → counts m x k ≡ b
    → cond b (first (filter_map reads (said m x k))) None ≡ Some v → IsStated reads m x k v
stated_if reads m x k v true counted is =
    let from = filter_map_among reads (said m x k) v (first_among (filter_map reads (said m x k)) v is) in
    record { counts = counted; object = from.0; said = from.1; read = from.2 }
stated_if reads m x k v false counted is = absurd cc

pub value_stated : {V : Type 0} (reads : Object → Option V) (m : List Statement) (x : ℕ) (k : KnownProp) (v : V) → value_of reads m x k ≡ Some v → IsStated reads m x k v
value_stated reads m x k v is = stated_if reads m x k v (counts m x k) refl is

first_read : {V : Type 0} (o : Option V) (v : V) → o ≡ Some v → first (filter_map (λ (p : Option V). p) (o ∷ [])) ≡ Some v
first_read None v is = absurd cc
first_read (Some w) v is = is

-- the only thing that is said by a property that counts is the value
pub value_is : {V : Type 0} (reads : Object → Option V) (m : List Statement) (x : ℕ) (k : KnownProp) (o : Object) (v : V) → counts m x k ≡ true → said m x k ≡ o ∷ [] → reads o ≡ Some v
    → value_of reads m x k ≡ Some v
value_is reads m x k o v counted only is = rw (counted, only) (first_read (reads o) v is)
