-- What ascends in an ordered model.
use Rattle.std.proofs.Common.{◌≡◌, ℕ, ◌<◌, ◌≤◌, List, [], ◌∷◌, map, Bool, true, false, cond, refl, ap, sym, ◌∙◌, subst, arith}
use Rattle.std.specs.List.{AllByRecursion, filter}
use Rattle.std.specs.List.Sorted.{IsStrictlyIncreasing, IsStrictlySortedBy}
use Rattle.std.specs.Ordering.{nat_cmp}
use Rattle.std.specs.declared.cmp.Ordering.TheVariants.{Less, Equal}
use Rattle.std.proofs.lemmas.Bool.Decides.{nat_tests}
use Rattle.std.proofs.lemmas.List.Kept.{IsStrictlyIncreasing-filter}
use Rattle.std.proofs.lemmas.Map.Keys.{IsStrictlyIncreasing-from_sorted}
use Rattle.std.proofs.lemmas.Bool.{eqb-true}
use Rattle.plain_laws.proofs.Each.{each_from_among}
use Rattle.plain_laws.proofs.Members.{Among, contains_among}
use Rattle.plain_laws.proofs.Numbers.{less_cmp}
use Rattle.plain_laws.proofs.Sorted.{then_first}
use Rattle.plain_laws.proofs.Truth.{and_first, and_second}
use Rattle.cim_words.specs.Groups.{is_node, is_terminal}
use Rattle.cim_words.specs.KnownProp.{known_row}
use Rattle.cim_words.specs.Order.{object_order, prop_order, statement_order}
use Rattle.cim_words.specs.declared.known_prop.KnownProp.{KnownProp}
use Rattle.cim_words.specs.Properties as property
use Rattle.cim_words.specs.declared.object.Object.{Object}
use Rattle.cim_words.specs.declared.object.Object.TheVariants as object
use Rattle.cim_words.specs.declared.prop.Prop.{Prop}
use Rattle.cim_words.specs.declared.prop.Prop.TheVariants as prop
use Rattle.cim_words.specs.declared.statement.Statement.{Statement}
use Rattle.statement_set.specs.Set.{IsOrdered}
use Rattle.cim_model.specs.Marks.{is_on, mark, marks_of}
use Rattle.cim_model.specs.Model.{is_by, is_id, is_naming, is_of, is_property, is_subject, naming, subjects}
use Rattle.cim_model.specs.Network.{equipment, is_equipment, nodes}
use Rattle.cim_model.specs.Stated.{terminals_at}
use Rattle.cim_model.proofs.Runs.{Rises, ordered_rises}
use Rattle.cim_model.proofs.SubjectLists.{listed_subject}
use Rattle.segment_cuts.specs.declared.mark.Mark.{Mark}

-- ---- subjects

above : (m : List Statement) (x y : ℕ) → ((z : ℕ) → is_subject m z ≡ true → x ≤ z) → is_subject m x ≡ false → Among (subjects m) y → nat_cmp x y ≡ Less
above m x y low other there =
    let subject : is_subject m y ≡ true = listed_subject m y (contains_among (subjects m) y there) in
    let least : x ≤ y = low y subject in
    let apart : x ≡ y → ⊥ = λ same. let both : true ≡ false = sym subject ∙ ap (is_subject m) (sym same) ∙ other in cc in
    let less : x < y = omega (arith, least, apart) in
    less_cmp x y less

sorted_one : (x : ℕ) (rest : List Statement) (b : Bool) → is_subject rest x ≡ b → ((z : ℕ) → is_subject rest z ≡ true → x ≤ z) → IsStrictlySortedBy nat_cmp (subjects rest)
    → IsStrictlySortedBy nat_cmp (cond b (subjects rest) (x ∷ subjects rest))
unfolding IsStrictlySortedBy
sorted_one x rest true is low sorted = sorted
sorted_one x rest false is low sorted = (each_from_among (λ y. nat_cmp x y ≡ Less) (subjects rest) (λ y there. above rest x y low is there), sorted)

sorted_subjects : (m : List Statement) → Rises m → IsStrictlySortedBy nat_cmp (subjects m)
unfolding IsStrictlySortedBy
sorted_subjects [] rises = tt
sorted_subjects (s ∷ rest) rises = sorted_one s.subject.number rest (is_subject rest s.subject.number) refl rises.0 (sorted_subjects rest rises.1)

pub subjects_ascend : (m : List Statement) → IsOrdered m → IsStrictlyIncreasing (subjects m)
subjects_ascend m ordered = IsStrictlyIncreasing-from_sorted (subjects m) (sorted_subjects m (ordered_rises m ordered))

pub equipment_ascends : (m : List Statement) → IsOrdered m → IsStrictlyIncreasing (equipment m)
equipment_ascends m ordered = IsStrictlyIncreasing-filter (is_equipment m) (subjects m) (subjects_ascend m ordered)

pub nodes_ascend : (m : List Statement) → IsOrdered m → IsStrictlyIncreasing (nodes m)
nodes_ascend m ordered = IsStrictlyIncreasing-filter (is_of m is_node) (subjects m) (subjects_ascend m ordered)

-- ---- marks

mark_numbers : (m : List Statement) (ys : List ℕ) → map (λ (one : Mark). one.id.number) (map (mark m) ys) ≡ ys
mark_numbers m [] = refl
mark_numbers m (y ∷ ys) = ap (λ (rest : List ℕ). y ∷ rest) (mark_numbers m ys)

pub marks_ascend : (m : List Statement) (x : ℕ) → IsOrdered m → IsStrictlyIncreasing (map (λ (one : Mark). one.id.number) (marks_of m x))
marks_ascend m x ordered = subst IsStrictlyIncreasing (sym (mark_numbers m (filter (is_on m x) (subjects m)))) (IsStrictlyIncreasing-filter (is_on m x) (subjects m) (subjects_ascend m ordered))

abbrev subject_number : Statement → ℕ
subject_number s = s.subject.number

-- ---- what names one thing by one property

same_prop : (k : KnownProp) (p q : Prop) → is_property k p ≡ true → is_property k q ≡ true → prop_order p q ≡ Equal
same_prop k (prop.Known a) (prop.Known b) is also =
    let same : known_row a ≡ known_row b = eqb-true (known_row a) (known_row k) is ∙ sym (eqb-true (known_row b) (known_row k) also) in
    grind (arith, nat_tests)
same_prop k (prop.Other a) q is also = absurd cc
same_prop k (prop.Known a) (prop.Other b) is also = absurd cc

same_object : (x : ℕ) (p q : Object) → is_id x p ≡ true → is_id x q ≡ true → object_order p q ≡ Equal
same_object x (object.Id a) (object.Id b) is also =
    let same : a.number ≡ b.number = eqb-true a.number x is ∙ sym (eqb-true b.number x also) in
    grind (arith, nat_tests)
same_object x (object.Name a) q is also = absurd cc
same_object x (object.Text a) q is also = absurd cc
same_object x (object.Id a) (object.Name b) is also = absurd cc
same_object x (object.Id a) (object.Text b) is also = absurd cc

-- of two statements that name one thing by one property the lesser has the lesser subject
subject_decides : (k : KnownProp) (x : ℕ) (s t : Statement) → is_naming k x s ≡ true → is_naming k x t ≡ true → statement_order s t ≡ Less → nat_cmp s.subject.number t.subject.number ≡ Less
subject_decides k x s t is also less =
    then_first (nat_cmp s.subject.number t.subject.number) _
    (rw (same_prop k s.prop t.prop (and_first (is_by k s) _ is) (and_first (is_by k t) _ also)) (same_object x s.object t.object (and_second (is_by k s) _ is) (and_second (is_by k t) _ also))) less

less_one : (k : KnownProp) (x : ℕ) (s t : Statement) (kept : List Statement) (b : Bool) → (b ≡ true → nat_cmp s.subject.number t.subject.number ≡ Less)
    → AllByRecursion (λ n. nat_cmp s.subject.number n ≡ Less) (map subject_number kept) → AllByRecursion (λ n. nat_cmp s.subject.number n ≡ Less) (map subject_number (cond b (t ∷ kept) kept))
less_one k x s t kept true first rest = (first refl, rest)
less_one k x s t kept false first rest = rest

naming_all : (k : KnownProp) (x : ℕ) (s : Statement) (rest : List Statement) → is_naming k x s ≡ true → AllByRecursion (λ t. statement_order s t ≡ Less) rest
    → AllByRecursion (λ n. nat_cmp s.subject.number n ≡ Less) (map subject_number (filter (is_naming k x) rest))
naming_all k x s [] is all = tt
naming_all k x s (t ∷ rest) is all =
    less_one k x s t (filter (is_naming k x) rest) (is_naming k x t) (λ also. subject_decides k x s t is also all.0) (naming_all k x s rest is all.1)

sorted_next : (s : Statement) (kept : List Statement) (b : Bool) → (b ≡ true → AllByRecursion (λ n. nat_cmp s.subject.number n ≡ Less) (map subject_number kept))
    → IsStrictlySortedBy nat_cmp (map subject_number kept) → IsStrictlySortedBy nat_cmp (map subject_number (cond b (s ∷ kept) kept))
unfolding IsStrictlySortedBy
sorted_next s kept true first sorted = (first refl, sorted)
sorted_next s kept false first sorted = sorted

naming_sorted : (k : KnownProp) (x : ℕ) (m : List Statement) → IsOrdered m → IsStrictlySortedBy nat_cmp (naming m k x)
unfolding IsStrictlySortedBy
naming_sorted k x [] ordered = tt
naming_sorted k x (s ∷ rest) ordered =
    sorted_next s (filter (is_naming k x) rest) (is_naming k x s) (λ is. naming_all k x s rest is ordered.0) (naming_sorted k x rest ordered.1)

pub terminals_ascend : (m : List Statement) (n : ℕ) → IsOrdered m → IsStrictlyIncreasing (terminals_at m n)
terminals_ascend m n ordered = IsStrictlyIncreasing-filter (is_of m is_terminal) (naming m property.connectivity_node n) (IsStrictlyIncreasing-from_sorted (naming m property.connectivity_node n) (naming_sorted property.connectivity_node n m ordered))
