-- The statements about one subject: they stand together, and a step takes them off the front.
use Rattle.std.proofs.Common.{◌≡◌, ◌<◌, ◌≤◌, ◌==◌, List, [], ◌∷◌, length, take, drop, get_or, Option, Some, unwrap_or, ap, arith, ℕ, inl, inr, ◌⊎◌}
use Rattle.std.specs.List.{prefix_len}
use Rattle.std.proofs.lemmas.List.Sums.{prefix_len-le-length}
use Rattle.std.specs.List.Sorted.{IsNonDecreasingBy}
use Rattle.std.specs.Ordering.{nat_cmp, ordering_then}
use Rattle.std.specs.declared.cmp.Ordering.TheVariants.{Less}
use Rattle.std.proofs.lemmas.Bool.{cases_lt}
use Rattle.std.proofs.lemmas.Map.Keys.{Less-from_sorted}
use Rattle.statement_set.specs.Set.{IsOrdered}
use Rattle.cim_words.specs.Order.{object_order, prop_order, statement_order}
use Rattle.plain_laws.proofs.Numbers.{cmp_not_greater, equal_itself}
use Rattle.plain_laws.proofs.Sorted.{then_not_greater}
use Rattle.cim_words.specs.declared.identifier.Id.{Id}
use Rattle.cim_words.specs.declared.statement.Statement.{Statement}
use Rattle.statement_set.specs.Runs.{run_of, TakesSubject}

pub run_is : (rest : List Statement) (first : Statement) → 1 ≤ length rest → first ≡ get_or rest 0 first → prefix_len (λ (t : Statement). t.subject.number == first.subject.number) rest ≡ run_of rest
run_is [] first some is = absurd (omega arith)
run_is (s ∷ rest) first some is = ap (λ (u : Statement). prefix_len (λ (t : Statement). t.subject.number == u.subject.number) (s ∷ rest)) is

pub run_within : (rest : List Statement) → run_of rest ≤ length rest
run_within [] = omega arith
run_within (s ∷ rest) = prefix_len-le-length (λ (t : Statement). t.subject.number == s.subject.number) (s ∷ rest)

pub run_some : (rest : List Statement) → 1 ≤ length rest → 0 < run_of rest
run_some [] some = absurd (omega arith)
run_some (s ∷ rest) some = rw (equal_itself s.subject.number) (omega arith)

-- what a step takes off the front of some statements
pub record IsTaken (s : Statement) (more : List Statement) (id : Id) (about after : List Statement) : Type 0 where
  pub subject : id ≡ s.subject
  pub front : about ≡ take (run_of (s ∷ more)) (s ∷ more)
  pub back : after ≡ drop (run_of (s ∷ more)) (s ∷ more)

pub takes_a_run : (s : Statement) (more : List Statement) (id : Id) (about after : List Statement) → TakesSubject (s ∷ more) (Some (id, about)) after → IsTaken s more id about after
takes_a_run s more id about after taken = record {
  subject = ap (λ (o : Option (Id × List Statement)). (unwrap_or o (s.subject, [])).0) taken.0;
  front = ap (λ (o : Option (Id × List Statement)). (unwrap_or o (s.subject, [])).1) taken.0;
  back = taken.1;
}

-- ---- the statements about one subject stand together

abbrev pub subject_of : Statement → ℕ
subject_of s = s.subject.number

-- the lesser of two statements has no higher subject
pub subject_rises : (s t : Statement) → statement_order s t ≡ Less → subject_of s ≤ subject_of t
subject_rises s t h = cmp_not_greater (subject_of s) (subject_of t) (then_not_greater (nat_cmp (subject_of s) (subject_of t)) (ordering_then (prop_order s.prop t.prop) (object_order s.object t.object)) h)

-- the subjects of an ordered list do not fall
pub subjects_rise : (list : List Statement) → IsOrdered list → IsNonDecreasingBy subject_of list
subjects_rise list ordered i j d le below = cases (cases_lt i j)
  where
    cases : (i < j) ⊎ (j ≤ i) → subject_of (get_or list i d) ≤ subject_of (get_or list j d)
    cases (inl less) = subject_rises (get_or list i d) (get_or list j d) (Less-from_sorted statement_order list i j d ordered less below)
    cases (inr back) = let same : i ≡ j = omega arith in rw same (omega arith)
