-- What the record of a subject holds in a model without fault.
use Rattle.std.proofs.Common.{◌≡◌, ℕ, List, [], ◌∷◌, map, Bool, true, false, cond, ◌||◌, ◌==◌, Option, Some, None, refl, ap, sym, ◌∙◌, arith}
use Rattle.std.specs.Prelude.{if◌then◌else◌, option_map, unwrap_or, is_some}
use Rattle.std.specs.List.{list_any}
use Rattle.std.proofs.lemmas.Bool.{eqb-true}
use Rattle.cim_words.specs.Groups.{is_cut, is_terminal}
use Rattle.cim_words.specs.declared.class.Class.{Class}
use Rattle.cim_words.specs.declared.statement.Statement.{Statement}
use Rattle.cim_model.specs.Model.{about, id_said, is_of, is_subject, subjects}
use Rattle.cim_model.specs.Network as network
use Rattle.cim_model.specs.Network.{is_class}
use Rattle.cim_model.specs.Phases.{no_phases}
use Rattle.cim_model.specs.Profile.{IsFaultless}
use Rattle.cim_model.specs.Values.{as_id, as_length, code_said, kind_said, length_said, number_of_id, number_said, truth_said}
use Rattle.cim_records.specs.Found.{found, known_of}
use Rattle.cim_records.specs.Subject.{records, subject_in}
use Rattle.cim_records.specs.declared.subject.Subject.{Subject}
use Rattle.cim_model.proofs.Classes.{is_of_by_class}
use Rattle.cim_model.proofs.SubjectLists.{listed_as_subject}
use Rattle.cim_records.proofs.Rules.{silent, value_is}

-- ---- what is found under an identifier

found_one : {V : Type 0} (f : ℕ → V) (x k : ℕ) (o : Option V) (r b : Bool) → (x == k) ≡ b → o ≡ (if r then Some (f x) else None) → cond b (Some (f k)) o ≡ (if b || r then Some (f x) else None)
found_one f x k o r true same rest = ap (λ (n : ℕ). Some (f n)) (sym (eqb-true x k same))
found_one f x k o r false same rest = rest

-- among entries whose values are told by their keys
pub found_map : {V : Type 0} (f : ℕ → V) (keys : List ℕ) (x : ℕ) → found (map (λ (k : ℕ). (as_id k, f k)) keys) x ≡ (if list_any (λ (k : ℕ). x == k) keys then Some (f x) else None)
found_map f [] x = refl
found_map f (k ∷ keys) x = found_one f x k _ (list_any (λ (n : ℕ). x == n) keys) (x == k) refl (found_map f keys x)

pub found_is : (m : List Statement) (x : ℕ) → found (records m) x ≡ (if is_subject m x then Some (subject_in (about m x)) else None)
found_is m x = found_map (λ (k : ℕ). subject_in (about m k)) (subjects m) x ∙ ap (λ (b : Bool). if b then Some (subject_in (about m x)) else None) (listed_as_subject x m)

known_at : (m : List Statement) (x : ℕ) (o : Option Subject) (b : Bool) → is_subject m x ≡ b → o ≡ (if b then Some (subject_in (about m x)) else None) → unwrap_or o (subject_in []) ≡ subject_in (about m x)
known_at m x o true is h = rw h refl
known_at m x o false is h = rw (h, silent m x is) refl

pub known_is : (m : List Statement) (x : ℕ) → known_of (records m) x ≡ subject_in (about m x)
known_is m x = known_at m x (found (records m) x) (is_subject m x) refl (found_is m x)

is_there : (o : Option Subject) (s : Subject) (b : Bool) → o ≡ (if b then Some s else None) → is_some o ≡ b
is_there o s true h = rw h refl
is_there o s false h = rw h refl

pub subject_there : (m : List Statement) (x : ℕ) → is_some (found (records m) x) ≡ is_subject m x
subject_there m x = is_there (found (records m) x) (subject_in (about m x)) (is_subject m x) (found_is m x)

-- ---- what its record says

module _ (m : List Statement) (faultless : IsFaultless m) (x : ℕ) where
  abbrev known : Subject
  known = known_of (records m) x

  pub class_known : known.class ≡ network.class_in m x
  class_known = ap (λ (s : Subject). s.class) (known_is m x)

  pub is_known : (test : Class → Bool) → is_class test known.class ≡ is_of m test x
  is_known test = ap (is_class test) class_known ∙ sym (is_of_by_class test m x faultless)

  pub owner_known : known.owner ≡ option_map as_id (network.owner_of m x)
  owner_known = ap (λ (s : Subject). s.owner) (known_is m x) ∙ ap (option_map as_id) (sym (value_is id_said m x 0 faultless (omega arith)))

  pub node_known : known.node ≡ option_map as_id (network.node_of m x)
  node_known = ap (λ (s : Subject). s.node) (known_is m x) ∙ ap (option_map as_id) (sym (value_is id_said m x 1 faultless (omega arith)))

  pub phases_known : known.phases ≡ network.stated_phases m x
  phases_known = ap (λ (s : Subject). s.phases) (known_is m x) ∙ sym (value_is code_said m x 2 faultless (omega arith))

  pub number_known : known.number ≡ network.number_of m x
  number_known = ap (λ (s : Subject). s.number) (known_is m x) ∙ sym (value_is number_said m x 3 faultless (omega arith))

  pub length_known : known.length ≡ option_map as_length (network.length_in m x)
  length_known = ap (λ (s : Subject). s.length) (known_is m x) ∙ ap (option_map as_length) (sym (value_is length_said m x 6 faultless (omega arith)))

  pub open_known : known.is_open ≡ network.open_of m x
  open_known =
      ap (λ (s : Subject). s.is_open) (known_is m x)
      ∙ rw (← value_is truth_said m x 5 faultless (omega arith), ← value_is truth_said m x 4 faultless (omega arith), ← is_of_by_class is_cut m x faultless) refl

  pub equipment_known : known.equipment ≡ option_map as_id (network.equipment_of m x)
  equipment_known =
      ap (λ (s : Subject). s.equipment) (known_is m x)
      ∙ rw (← value_is id_said m x 11 faultless (omega arith), ← value_is id_said m x 13 faultless (omega arith), ← value_is id_said m x 15 faultless (omega arith)) refl

  pub phase_known : known.phase ≡ network.part_phase m x
  phase_known =
      ap (λ (s : Subject). s.phase) (known_is m x)
      ∙ rw (← value_is kind_said m x 12 faultless (omega arith), ← value_is kind_said m x 14 faultless (omega arith), ← value_is kind_said m x 17 faultless (omega arith)) refl

  pub segment_known : known.segment ≡ option_map as_id (network.segment_of m x)
  segment_known =
      ap (λ (s : Subject). s.segment) (known_is m x)
      ∙ rw (← value_is id_said m x 7 faultless (omega arith), ← value_is id_said m x 9 faultless (omega arith)) refl

  pub mark_length_known : known.mark_length ≡ as_length (network.mark_length m x)
  mark_length_known =
      ap (λ (s : Subject). s.mark_length) (known_is m x)
      ∙ rw (← value_is length_said m x 8 faultless (omega arith), ← value_is length_said m x 10 faultless (omega arith)) refl

  number_again : (o : Option ℕ) → option_map number_of_id (option_map as_id o) ≡ o
  number_again None = refl
  number_again (Some n) = refl

  pub owner_number : option_map number_of_id known.owner ≡ network.owner_of m x
  owner_number = ap (option_map number_of_id) owner_known ∙ number_again (network.owner_of m x)

  -- the phases of a terminal, told by its record
  pub phases_told : (s : Subject) → s ≡ known → network.phases_of m x ≡ (if is_class is_terminal s.class then unwrap_or s.phases (network.owner_phases m (option_map number_of_id s.owner)) else no_phases)
  phases_told s is = rw (is, is_known is_terminal, phases_known, owner_number) refl
