-- The statements about one subject stand together at the front of an ordered list.
use Rattle.std.proofs.Common.{◌≡◌, ℕ, ◌<◌, ◌≤◌, ◌==◌, List, [], ◌∷◌, ◌++◌, Bool, true, false, cond, inl, inr, refl, ap, sym, subst, ◌∙◌, rules, arith, true≢false}
use Rattle.std.specs.List.{filter, AllByRecursion}
use Rattle.std.specs.List.Sorted.{IsStrictlySortedBy}
use Rattle.std.specs.declared.cmp.Ordering.TheVariants.{Less}
use Rattle.std.proofs.lemmas.List.Elements.{filter-append}
use Rattle.std.proofs.lemmas.Bool.{eqb-true, or_cases, or_left, or_right}
use Rattle.plain_laws.proofs.Filters.{filter_none}
use Rattle.plain_laws.proofs.Fronts.{filter_front, front, front_past, past}
use Rattle.plain_laws.proofs.Numbers.{equal_itself}
use Rattle.cim_words.specs.Order.{statement_order}
use Rattle.cim_words.specs.declared.statement.Statement.{Statement}
use Rattle.statement_set.specs.Set.{IsOrdered}
use Rattle.cim_model.specs.Model.{about, is_about, is_subject}
use Rattle.statement_set.proofs.Runs.{subject_rises}

-- ---- the front that passes a test, and what stands after it

-- ---- tests of some element

-- ---- lists whose subjects do not fall

abbrev pub IsNoneBelow : ℕ → List Statement → Type 0
IsNoneBelow x list = (z : ℕ) → is_subject list z ≡ true → x ≤ z

abbrev pub Rises : List Statement → Type 0
Rises [] = Unit {0}
Rises (s ∷ rest) = IsNoneBelow s.subject.number rest × Rises rest

all_rise : (s : Statement) (list : List Statement) → AllByRecursion (λ t. statement_order s t ≡ Less) list → IsNoneBelow s.subject.number list
all_rise s [] all z h = absurd cc
all_rise s (t ∷ list) all z h = elim (or_cases (is_about z t) (is_subject list z) h) [ inl here ↦ subst (λ (n : ℕ). s.subject.number ≤ n) (eqb-true t.subject.number z here) (subject_rises s t all.0) | inr there ↦ all_rise s list all.1 z there ]

pub ordered_rises : (list : List Statement) → IsOrdered list → Rises list
unfolding IsStrictlySortedBy
ordered_rises [] ordered = tt
ordered_rises (s ∷ list) ordered = (all_rise s list ordered.0, ordered_rises list ordered.1)

rises_one : (t : Statement) (more after : List Statement) (b : Bool) → Rises (t ∷ more) → Rises after → Rises (cond b after (t ∷ more))
rises_one t more after true rises past_rises = past_rises
rises_one t more after false rises past_rises = rises

pub rises_past : (p : Statement → Bool) (list : List Statement) → Rises list → Rises (past p list)
rises_past p [] rises = tt
rises_past p (t ∷ more) rises = rises_one t more (past p more) (p t) rises (rises_past p more rises.1)

-- ---- one run

later_one : (x z : ℕ) (t : Statement) (more after : List Statement) (b : Bool) → is_about x t ≡ b → IsNoneBelow x (t ∷ more) → IsNoneBelow t.subject.number more
    → (is_subject after z ≡ true → x < z) → is_subject (cond b after (t ∷ more)) z ≡ true → x < z
later_one x z t more after true is low rises later h = later h
later_one x z t more after false is low rises later h =
    let at_least : x ≤ t.subject.number = low t.subject.number (or_left _ _ (equal_itself t.subject.number)) in
    let other : t.subject.number ≡ x → ⊥ = λ same. true≢false (sym (ap (λ (n : ℕ). n == x) same ∙ equal_itself x) ∙ is) in
    elim (or_cases (is_about z t) (is_subject more z) h) [ inl here ↦ (let same : t.subject.number ≡ z = eqb-true t.subject.number z here in omega arith) | inr there ↦ (let above : t.subject.number ≤ z = rises z there in omega arith) ]

-- what stands after the run has later subjects
pub later : (x z : ℕ) (list : List Statement) → Rises list → IsNoneBelow x list → is_subject (past (is_about x) list) z ≡ true → x < z
later x z [] rises low h = absurd cc
later x z (t ∷ more) rises low h =
    later_one x z t more (past (is_about x) more) (is_about x t) refl low rises.0 (later x z more rises.1 (λ y g. low y (or_right (is_about y t) (is_subject more y) g))) h

subject_one : (x y : ℕ) (t : Statement) (run : List Statement) (b : Bool) → is_about x t ≡ b → (is_subject run y ≡ true → y ≡ x) → is_subject (cond b (t ∷ run) []) y ≡ true → y ≡ x
subject_one x y t run true is rest h = elim (or_cases (is_about y t) (is_subject run y) h) [ inl here ↦ sym (eqb-true t.subject.number y here) ∙ eqb-true t.subject.number x is | inr there ↦ rest there ]
subject_one x y t run false is rest h = absurd cc

-- a run has one subject
pub run_subject : (x y : ℕ) (list : List Statement) → is_subject (front (is_about x) list) y ≡ true → y ≡ x
run_subject x y [] h = absurd cc
run_subject x y (t ∷ more) h = subject_one x y t (front (is_about x) more) (is_about x t) refl (run_subject x y more) h

pub run_has : (s : Statement) (more : List Statement) → is_subject (front (is_about s.subject.number) (s ∷ more)) s.subject.number ≡ true
run_has s more = rw (equal_itself s.subject.number) (or_left _ _ (equal_itself s.subject.number))

-- a run among earlier and later subjects is all that is said of its own
pub about_run : (m done rest : List Statement) (x : ℕ) → done ++ rest ≡ m → is_subject done x ≡ false → is_subject (past (is_about x) rest) x ≡ false → front (is_about x) rest ≡ about m x
about_run m done rest x whole none after = sym (
    ap (filter (is_about x)) (sym whole)
    ∙ filter-append (is_about x) done rest
    ∙ ap (λ (list : List Statement). list ++ filter (is_about x) rest) (filter_none (is_about x) done none)
    ∙ ap (filter (is_about x)) (sym (front_past (is_about x) rest))
    ∙ filter-append (is_about x) (front (is_about x) rest) (past (is_about x) rest)
    ∙ rw (filter_front (is_about x) rest, filter_none (is_about x) (past (is_about x) rest) after) (search rules)
    )
