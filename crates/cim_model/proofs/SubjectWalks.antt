-- Walks over an ordered list subject by subject, as an iterator over its subjects takes them off.
use Rattle.std.proofs.Common.{◌≡◌, ℕ, ◌<◌, List, [], ◌∷◌, ◌++◌, true, false, Option, Some, None, ap, sym, subst, ◌∙◌, arith, append_assoc, eqb-true, inl, inr}
use Rattle.std.specs.List.{list_any}
use Rattle.std.proofs.lemmas.Bool.{false_from_ne_true, or_cases, or_left, or_right}
use Rattle.std.proofs.lemmas.List.{append-nil}
use Rattle.std.proofs.lemmas.List.Folds.{list_any-append}
use Rattle.plain_laws.proofs.Fronts.{drop_past, front, front_past, past, take_front}
use Rattle.plain_laws.proofs.Numbers.{equal_itself}
use Rattle.cim_words.specs.declared.identifier.Id.{Id}
use Rattle.cim_words.specs.declared.statement.Statement.{Statement}
use Rattle.statement_set.specs.Runs.{first_subject, TakesSubject}
use Rattle.statement_set.specs.Set.{IsOrdered}
use Rattle.statement_set.proofs.Runs.{takes_a_run}
use Rattle.cim_model.specs.Model.{about, is_about, is_subject}
use Rattle.cim_model.proofs.Runs.{IsNoneBelow, Rises, about_run, later, ordered_rises, rises_past, run_has, run_subject}

-- the subjects of what is done stand below those of the rest
pub record IsSplit (m done rest : List Statement) : Type 0 where
  pub whole : done ++ rest ≡ m
  pub apart : (y z : ℕ) → is_subject done y ≡ true → is_subject rest z ≡ true → y < z
  pub rises : Rises rest

-- the next run: all that is said of one subject, which is above those that are done
pub record IsNextRun (m done run after : List Statement) (x : ℕ) : Type 0 where
  pub split : IsSplit m (done ++ run) after
  pub all : run ≡ about m x
  pub below : (y : ℕ) → is_subject done y ≡ true → y < x
  pub some : is_subject run x ≡ true
  pub one : (y : ℕ) → is_subject run y ≡ true → y ≡ x

pub split_begins : (m left : List Statement) → left ≡ m → IsOrdered m → IsSplit m [] left
split_begins m left same ordered = record { whole = same; apart = λ y z h g. absurd cc; rises = ordered_rises left (subst IsOrdered (sym same) ordered) }

-- no subject that is done is above all of them
pub is_fresh : (done : List Statement) (x : ℕ) → ((y : ℕ) → is_subject done y ≡ true → y < x) → is_subject done x ≡ false
is_fresh done x below = false_from_ne_true (is_subject done x) (λ h. absurd (let self : x < x = below x h in omega arith))

first_least : (s : Statement) (more : List Statement) → Rises (s ∷ more) → IsNoneBelow s.subject.number (s ∷ more)
first_least s more rises z h = elim (or_cases (is_about z s) (is_subject more z) h) [
  | inl here ↦ (let same : s.subject.number ≡ z = eqb-true s.subject.number z here in omega arith)
  | inr there ↦ rises.0 z there
]

next_run : (m done : List Statement) (s : Statement) (more : List Statement) → IsSplit m done (s ∷ more)
    → IsNextRun m done (front (is_about s.subject.number) (s ∷ more)) (past (is_about s.subject.number) (s ∷ more)) s.subject.number
next_run m done s more split = record {
  split = record {
    whole = append_assoc done (front (is_about s.subject.number) (s ∷ more)) (past (is_about s.subject.number) (s ∷ more)) ∙ ap (λ (rest : List Statement). done ++ rest) (front_past (is_about s.subject.number) (s ∷ more)) ∙ split.whole;
    apart = λ y z h g. elim (or_cases (is_subject done y) (is_subject (front (is_about s.subject.number) (s ∷ more)) y) (sym (list_any-append (is_about y) done (front (is_about s.subject.number) (s ∷ more))) ∙ h)) [
      | inl old ↦ split.apart y z old (in_rest z g)
      | inr new ↦ (let same : y ≡ s.subject.number = run_subject s.subject.number y (s ∷ more) new in let more_than : s.subject.number < z = above z g in omega arith)
    ];
    rises = rises_past (is_about s.subject.number) (s ∷ more) split.rises;
  };
  all = about_run m done (s ∷ more) s.subject.number split.whole (is_fresh done s.subject.number below) (false_from_ne_true (is_subject (past (is_about s.subject.number) (s ∷ more)) s.subject.number) (λ h. absurd (let self : s.subject.number < s.subject.number = above s.subject.number h in omega arith)));
  below = below;
  some = run_has s more;
  one = λ y h. run_subject s.subject.number y (s ∷ more) h;
}
  where
    below : (y : ℕ) → is_subject done y ≡ true → y < s.subject.number
    below y h = split.apart y s.subject.number h (or_left _ _ (equal_itself s.subject.number))

    above : (z : ℕ) → is_subject (past (is_about s.subject.number) (s ∷ more)) z ≡ true → s.subject.number < z
    above z h = later s.subject.number z (s ∷ more) split.rises (first_least s more split.rises) h

    in_rest : (z : ℕ) → is_subject (past (is_about s.subject.number) (s ∷ more)) z ≡ true → is_subject (s ∷ more) z ≡ true
    in_rest z h =
        ap (list_any (is_about z)) (sym (front_past (is_about s.subject.number) (s ∷ more)))
        ∙ list_any-append (is_about z) (front (is_about s.subject.number) (s ∷ more)) (past (is_about s.subject.number) (s ∷ more)) ∙ or_right _ _ h

run_off : (m done left after them : List Statement) (id : Id) → IsSplit m done left → TakesSubject left (Some (id, them)) after → IsNextRun m done them after id.number
run_off m done [] after them id split taken = absurd (let e : Some (id, them) ≡ None = taken.0 in cc)
run_off m done (s ∷ more) after them id split taken =
    let off = takes_a_run s more id them after taken in
    subst (λ (i : Id). IsNextRun m done them after i.number) (sym off.subject)
    (subst (λ (rest : List Statement). IsNextRun m done them rest s.subject.number) (sym (off.back ∙ drop_past (is_about s.subject.number) (s ∷ more)))
    (subst (λ (run : List Statement). IsNextRun m done run (past (is_about s.subject.number) (s ∷ more)) s.subject.number) (sym (off.front ∙ take_front (is_about s.subject.number) (s ∷ more))) (next_run m done s more split)))

-- one more subject comes off, or all are done
pub split_step : (m done left after them : List Statement) (id : Id) (o : Option (Id × List Statement)) → IsSplit m done left → o ≡ Some (id, them) → TakesSubject left o after → IsNextRun m done them after id.number
split_step m done left after them id o split is taken = run_off m done left after them id split (subst (λ (p : Option (Id × List Statement)). TakesSubject left p after) is taken)

all_off : (m done left after : List Statement) → IsSplit m done left → TakesSubject left None after → done ≡ m
all_off m done [] after split taken = sym (append-nil done) ∙ split.whole
all_off m done (s ∷ more) after split taken = absurd (let e : None ≡ first_subject (s ∷ more) = taken.0 in cc)

pub split_ends : (m done left after : List Statement) (o : Option (Id × List Statement)) → IsSplit m done left → o ≡ None → TakesSubject left o after → done ≡ m
split_ends m done left after o split is taken = all_off m done left after split (subst (λ (p : Option (Id × List Statement)). TakesSubject left p after) is taken)
