-- What a property says in a model without fault: one value at most.
use Rattle.std.proofs.Common.{◌≡◌, ℕ, ◌<◌, ◌≤◌, List, [], ◌∷◌, length, get_or, Bool, true, false, cond, ◌&&◌, Option, Some, None, refl, arith, ⊎_elim}
use Rattle.std.specs.Prelude.{nat_lt}
use Rattle.std.specs.List.{cons_option, filter_map}
use Rattle.std.proofs.lemmas.Bool.{and_cases, ltb-false}
use Rattle.plain_laws.proofs.Filters.{filter_none}
use Rattle.plain_laws.proofs.Tests.{none_at}
use Rattle.cim_words.specs.Groups.{counts_on}
use Rattle.cim_words.specs.Properties as property
use Rattle.cim_words.specs.declared.object.Object.{Object}
use Rattle.cim_words.specs.declared.statement.Statement.{Statement}
use Rattle.cim_model.specs.Model.{about, counts, is_about, is_subject, said}
use Rattle.cim_model.specs.Network.{class_in, first, is_class, value_of}
use Rattle.cim_model.specs.Profile.{IsFaultless, attributes, states_twice}
use Rattle.cim_model.proofs.Classes.{is_of_by_class}
use Rattle.cim_model.proofs.FaultlessSubjects.{breaks_no_rule}
use Rattle.cim_records.specs.Subject.{read_of, value_in}

-- ---- a subject of which nothing is said

pub silent : (m : List Statement) (x : ℕ) → is_subject m x ≡ false → about m x ≡ []
silent m x h = filter_none (is_about x) m h

-- ---- the value of a property

said_one : {V : Type 0} (v : Option V) → first (cons_option v []) ≡ v
said_one None = refl
said_one (Some v) = refl

one_value : {V : Type 0} (reads : Object → Option V) (objects : List Object) → length objects ≤ 1 → first (filter_map reads objects) ≡ read_of reads (first objects)
one_value reads [] h = refl
one_value reads (o ∷ []) h = said_one (reads o)
one_value reads (o ∷ next ∷ more) h = absurd (omega arith)

value_at : {V : Type 0} (reads : Object → Option V) (objects : List Object) (b c : Bool) → b ≡ c → (nat_lt 1 (length objects) && b) ≡ false
    → cond b (first (filter_map reads objects)) None ≡ read_of reads (first (cond c objects []))
value_at reads objects true true same h = one_value reads objects (ltb-false 1 (length objects) (⊎_elim (λ no. no) (λ yes. absurd (cc)) (and_cases (nat_lt 1 (length objects)) true h)))
value_at reads objects true false same h = absurd cc
value_at reads objects false true same h = absurd cc
value_at reads objects false false same h = refl

once_at : (m : List Statement) (x : ℕ) (i : ℕ) → IsFaultless m → i < 19 → (b : Bool) → is_subject m x ≡ b → states_twice m x (get_or attributes i property.rdf_type) ≡ false
once_at m x i faultless within true is = none_at (states_twice m x) attributes i property.rdf_type (breaks_no_rule m 2 x faultless is) within
once_at m x i faultless within false is = rw (silent m x is) refl

-- a property states one value at most
pub value_is : {V : Type 0} (reads : Object → Option V) (m : List Statement) (x : ℕ) (i : ℕ) → IsFaultless m → i < 19
    → value_of reads m x (get_or attributes i property.rdf_type) ≡ value_in reads (class_in m x) (about m x) (get_or attributes i property.rdf_type)
value_is reads m x i faultless within =
    let k = get_or attributes i property.rdf_type in
    value_at reads (said m x k) (counts m x k) (is_class (counts_on k) (class_in m x)) (is_of_by_class (counts_on k) m x faultless) (once_at m x i faultless within (is_subject m x) refl)
