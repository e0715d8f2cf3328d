-- Walking over the entries of a table, and taking something from each that passes a test: equipment, nodes, cuts and clamps.
use Rattle.std.proofs.Common.{◌≡◌, ℕ, List, [], ◌∷◌, ◌++◌, map, Bool, true, false, ◌==◌, refl, ap, sym, ◌∙◌, append_assoc, not, ◌||◌, ◌&&◌, Option, Some, None}
use Rattle.std.specs.Prelude.{if◌then◌else◌, is_some, option_map, unwrap_or}
use Rattle.std.specs.List.{filter, list_any}
use Rattle.std.proofs.lemmas.Bool.{or_left, or_right}
use Rattle.std.proofs.lemmas.List.{append-nil}
use Rattle.segment_cuts.specs.declared.mark.Mark.{Mark}
use Rattle.cim_model.specs.Marks.{is_on, mark, marks_of}
use Rattle.cim_records.proofs.Sides.{empty_by_side}
use Rattle.cim_model.proofs.SubjectLists.{listed_as_subject}
use Rattle.cim_model.proofs.Classes.{is_of_by_class}
use Rattle.cim_records.proofs.Known.{is_known, known_is, mark_length_known, segment_known, subject_there}
use Rattle.cim_records.specs.Tables.{HoldsTerminals}
use Rattle.cim_records.specs.Found.{found, known_of, members}
use Rattle.cim_model.specs.Values.{as_id, is_some_id}
use Rattle.cim_model.specs.Stated.{terminals_of}
use Rattle.cim_model.specs.Profile.{IsFaultless}
use Rattle.cim_model.specs.Network.{is_class, is_some_number, segment_of}
use Rattle.cim_model.specs.Model.{is_empty, is_of, is_subject, subjects}
use Rattle.cim_words.specs.Groups.{is_cut, is_equipment_class, is_node}
use Rattle.plain_laws.proofs.Numbers.{equal_itself, equal_turned}
use Rattle.cim_words.specs.declared.identifier.Id.{Id}
use Rattle.cim_words.specs.declared.statement.Statement.{Statement}
use Rattle.cim_records.specs.Subject.{mark_of, record_in, records, subject_in}
use Rattle.cim_records.specs.declared.subject.Subject.{Subject}
use Rattle.cim_model.specs.Network as network

abbrev pub Entry : Type 0
Entry = Id × Subject

-- what is taken from the entries that pass
abbrev pub taken : {V : Type 0} → (Entry → V) → (Entry → Bool) → List Entry → List V
taken value test entries = map value (filter test entries)

taken_one : {V : Type 0} (value : Entry → V) (test : Entry → Bool) (e : Entry) (rest : List Entry) (b : Bool) → test e ≡ b
    → taken value test (e ∷ rest) ≡ (if b then value e ∷ taken value test rest else taken value test rest)
taken_one value test e rest true is = rw is refl
taken_one value test e rest false is = rw is refl

pub taken_more : {V : Type 0} (value : Entry → V) (test : Entry → Bool) (e : Entry) (rest left : List Entry) (done all : List V) → test e ≡ true → left ≡ e ∷ rest
    → done ++ taken value test left ≡ all → (done ++ value e ∷ []) ++ taken value test rest ≡ all
taken_more value test e rest left done all is next so_far =
    append_assoc done (value e ∷ []) (taken value test rest) ∙ ap (λ (those : List _). done ++ those) (sym (ap (taken value test) next ∙ taken_one value test e rest true is)) ∙ so_far

pub taken_past : {V : Type 0} (value : Entry → V) (test : Entry → Bool) (e : Entry) (rest left : List Entry) (done all : List V) → test e ≡ false → left ≡ e ∷ rest
    → done ++ taken value test left ≡ all → done ++ taken value test rest ≡ all
taken_past value test e rest left done all is next so_far =
    ap (λ (those : List _). done ++ those) (sym (ap (taken value test) next ∙ taken_one value test e rest false is)) ∙ so_far

pub taken_all : {V : Type 0} (value : Entry → V) (test : Entry → Bool) (left : List Entry) (done all : List V) → left ≡ [] → done ++ taken value test left ≡ all → done ≡ all
taken_all value test left done all none so_far = sym (append-nil done) ∙ ap (λ (rest : List Entry). done ++ taken value test rest) (sym none) ∙ so_far

-- ---- from the records of some subjects

same_one : {V : Type 0} (value : Entry → V) (f : ℕ → V) (x : ℕ) (test : Entry → Bool) (e : Entry) (rest : List Entry) (more : List ℕ) (a b : Bool) → test e ≡ a → a ≡ b → value e ≡ f x
    → taken value test rest ≡ map f more → taken value test (e ∷ rest) ≡ map f (if b then x ∷ more else more)
same_one value f x test e rest more true true is same this so = rw is (rw (this, so) refl)
same_one value f x test e rest more false false is same this so = rw is so
same_one value f x test e rest more true false is same this so = absurd cc
same_one value f x test e rest more false true is same this so = absurd cc

pub taken_same : {V : Type 0} (value : Entry → V) (f : ℕ → V) (test : Entry → Bool) (p : ℕ → Bool) (m : List Statement) (xs : List ℕ)
    → ((x : ℕ) → list_any (λ (k : ℕ). x == k) xs ≡ true → test (record_in m x) ≡ p x) → ((x : ℕ) → value (record_in m x) ≡ f x) → taken value test (map (record_in m) xs) ≡ map f (filter p xs)
taken_same value f test p m [] tells gives = refl
taken_same value f test p m (x ∷ xs) tells gives =
    same_one value f x test (record_in m x) (map (record_in m) xs) (filter p xs) (test (record_in m x)) (p x) refl (tells x (or_left (x == x) _ (equal_itself x))) (gives x)
    (taken_same value f test p m xs (λ y h. tells y (or_right (y == x) _ h)) gives)

-- ---- the equipment and the nodes among the entries

-- the keys of the entries that pass
abbrev pub key : Entry → Id
key e = e.0

abbrev pub kept : (Entry → Bool) → List Entry → List Id
kept = taken key

abbrev pub node_test : Entry → Bool
node_test e = is_class is_node e.1.class

pub nodes_kept : (m : List Statement) → IsFaultless m → kept node_test (records m) ≡ map as_id (network.nodes m)
nodes_kept m faultless = taken_same key as_id node_test (is_of m is_node) m (subjects m) (λ x h. sym (is_of_by_class is_node m x faultless)) (λ x. refl)

abbrev pub equipment_test : List (Id × List Id) → Entry → Bool
equipment_test groups e = is_class is_equipment_class e.1.class || not (is_empty (members groups e.0.number))

-- among the subjects it tells the equipment
equipment_told : (m : List Statement) (groups : List (Id × List Id)) → IsFaultless m → HoldsTerminals m groups → (x : ℕ) → is_subject m x ≡ true → equipment_test groups (record_in m x) ≡ network.is_equipment m x
equipment_told m groups faultless holds x is =
    rw (is, holds x, ← is_of_by_class is_equipment_class m x faultless, empty_by_side m faultless x) refl

pub equipment_kept : (m : List Statement) (groups : List (Id × List Id)) → IsFaultless m → HoldsTerminals m groups → kept (equipment_test groups) (records m) ≡ map as_id (network.equipment m)
equipment_kept m groups faultless holds =
    taken_same key as_id (equipment_test groups) (network.is_equipment m) m (subjects m) (λ x h. equipment_told m groups faultless holds x (sym (listed_as_subject x m) ∙ h)) (λ x. refl)

pub equipment_passes : (groups : List (Id × List Id)) (e : Entry) (terminals : List Id) (b : Bool) → terminals ≡ members groups e.0.number → (is_class is_equipment_class e.1.class || not (is_empty terminals)) ≡ b → equipment_test groups e ≡ b
equipment_passes groups e terminals b is h = ap (λ (list : List Id). is_class is_equipment_class e.1.class || not (is_empty list)) (sym is) ∙ h

-- ---- whether an identifier is that of equipment

pub equipment_found : (m : List Statement) → IsFaultless m → (x : ℕ) (o : Option Subject) (s : Subject) (terminals : List Id) → o ≡ found (records m) x → o ≡ Some s → terminals ≡ map as_id (network.terminals_by_side m x)
    → (is_class is_equipment_class s.class || not (is_empty terminals)) ≡ network.is_equipment m x
equipment_found m faultless x o s terminals at is those =
    ap (λ (b : Bool). b || not (is_empty terminals)) (ap (λ (t : Subject). is_class is_equipment_class t.class) known ∙ is_known m faultless x is_equipment_class)
    ∙ ap (λ (b : Bool). is_of m is_equipment_class x || not b) (ap is_empty those ∙ empty_by_side m faultless x)
    ∙ ap (λ (b : Bool). b && (is_of m is_equipment_class x || not (is_empty (terminals_of m x)))) (ap is_some (sym is ∙ at) ∙ subject_there m x)
  where
    known : s ≡ known_of (records m) x
    known = ap (λ (p : Option Subject). unwrap_or p (subject_in [])) (sym is ∙ at)

pub no_equipment : (m : List Statement) (x : ℕ) (o : Option Subject) → o ≡ found (records m) x → o ≡ None → false ≡ network.is_equipment m x
no_equipment m x o at is = ap (λ (b : Bool). b && (is_of m is_equipment_class x || not (is_empty (terminals_of m x)))) (ap is_some (sym is ∙ at) ∙ subject_there m x)

-- ---- the cuts and clamps among the entries, segment by segment

-- whether an entry stands on a segment, and its mark there
abbrev pub stands_on : ℕ → Entry → Bool
stands_on x e = is_some_id x e.1.segment

abbrev pub entry_mark : Entry → Mark
entry_mark e = mark_of e.0 e.1

-- the marks of those that stand on a segment
abbrev pub marked : ℕ → List Entry → List Mark
marked x = taken entry_mark (stands_on x)

more_if : (x : ℕ) (e : Entry) (rest left : List Entry) (done all : List Mark) (b : Bool) → stands_on x e ≡ b → left ≡ e ∷ rest → done ++ marked x left ≡ all
    → (if b then done ++ entry_mark e ∷ [] else done) ++ marked x rest ≡ all
more_if x e rest left done all true is = taken_more entry_mark (stands_on x) e rest left done all is
more_if x e rest left done all false is = taken_past entry_mark (stands_on x) e rest left done all is

pub marked_more : (x : ℕ) (e : Entry) (rest left : List Entry) (done now all : List Mark) (s : Id) (next : Mark) → e.1.segment ≡ Some s → next ≡ entry_mark e
    → now ≡ (if x == s.number then done ++ next ∷ [] else done) → left ≡ e ∷ rest → done ++ marked x left ≡ all → now ++ marked x rest ≡ all
marked_more x e rest left done now all s next some is added first so_far =
    ap (λ (marks : List Mark). marks ++ marked x rest) (added ∙ ap (λ (one : Mark). if x == s.number then done ++ one ∷ [] else done) is)
    ∙ more_if x e rest left done all (x == s.number) (ap (is_some_id x) some ∙ equal_turned s.number x) first so_far

-- ---- in a model without fault

some_number : (x : ℕ) (o : Option ℕ) → is_some_id x (option_map as_id o) ≡ is_some_number x o
some_number x None = refl
some_number x (Some n) = refl

module _ (m : List Statement) (faultless : IsFaultless m) where
  stands_told : (x y : ℕ) → stands_on x (record_in m y) ≡ is_on m x y
  stands_told x y = ap (λ (s : Subject). is_some_id x s.segment) (sym (known_is m y)) ∙ ap (is_some_id x) (segment_known m faultless y) ∙ some_number x (segment_of m y)

  mark_told : (y : ℕ) → entry_mark (record_in m y) ≡ mark m y
  mark_told y = ap (mark_of (as_id y)) (sym (known_is m y)) ∙ rw (mark_length_known m faultless y, is_known m faultless y is_cut) refl

  pub marks_told : (x : ℕ) → marked x (records m) ≡ marks_of m x
  marks_told x = taken_same entry_mark (mark m) (stands_on x) (is_on m x) m (subjects m) (λ y h. stands_told x y) mark_told
