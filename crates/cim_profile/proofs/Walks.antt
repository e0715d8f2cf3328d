-- The least fault of the subjects so far, by any rules.
use Rattle.std.proofs.Common.{◌≡◌, ℕ, ◌<◌, ◌≤◌, List, [], ◌++◌, Bool, true, false, ltb, cond, ◌⊎◌, inl, inr, Option, Some, None, refl, ap, sym, subst, ◌∙◌, arith, ⊎_elim}
use Rattle.std.proofs.lemmas.Bool.{cases_lt, or_cases, or_left, or_right}
use Rattle.std.proofs.lemmas.Bool.Decides.{nat_tests}
use Rattle.std.proofs.lemmas.List.Folds.{list_any-append}
use Rattle.plain_laws.proofs.Truth.{never_both}
use Rattle.cim_profile.specs.FirstBreak.{IsAtMost}
use Rattle.cim_words.specs.declared.identifier.Id.{Id}
use Rattle.cim_words.specs.declared.statement.Statement.{Statement}
use Rattle.statement_set.specs.Runs.{TakesSubject}
use Rattle.statement_set.specs.Set.{IsOrdered}
use Rattle.cim_model.specs.Model.{about, is_about, is_subject}
use Rattle.cim_profile.specs.Walk.{lesser_of, IsFirst, IsLeast, IsLesserBy}
use Rattle.cim_profile.specs.declared.faults.Break.{Break}
use Rattle.cim_model.proofs.SubjectWalks.{IsNextRun, IsSplit, split_begins, split_ends, split_step}

-- ---- the least fault of some subjects

-- subjects, and the same with one that is above all of them
pub record IsNext (who now : ℕ → Bool) (x : ℕ) : Type 0 where
  pub kept : (y : ℕ) → who y ≡ true → now y ≡ true
  pub new : now x ≡ true
  pub only : (y : ℕ) → now y ≡ true → (who y ≡ true) ⊎ (y ≡ x)
  pub below : (y : ℕ) → who y ≡ true → y < x

-- no rule before the first one is broken
from_first : (breaks : ℕ → ℕ → Bool) (first x rule y : ℕ) → ((rule : ℕ) → rule < first → breaks rule x ≡ false) → y ≡ x → breaks rule y ≡ true → first ≤ rule
from_first breaks first x rule y before same broken =
    ⊎_elim (λ less. absurd (never_both (breaks rule x) (ap (breaks rule) (sym same) ∙ broken) (before rule less))) (λ at_least. at_least) (cases_lt rule first)

at_most : (rule x other y : ℕ) → rule ≤ other → x ≤ y → IsAtMost rule x other y
at_most rule x other y le at = ⊎_elim (λ less. inl less) (λ back. inr ((let same : rule ≡ other = omega arith in same), at)) (cases_lt rule other)

rule_at_most : (rule x other y : ℕ) → IsAtMost rule x other y → rule ≤ other
rule_at_most rule x other y (inl less) = omega arith
rule_at_most rule x other y (inr same) = let is : rule ≡ other = same.0 in omega arith

chosen : (breaks : ℕ → ℕ → Bool) (who now : ℕ → Bool) (x : Id) (first : ℕ) (found : Break) (b : Bool) → ltb first found.rule ≡ b → IsNext who now x.number
    → IsFirst breaks x.number (Some first) → IsLeast breaks who (Some found) → IsLeast breaks now (cond b (Some (record { rule = first; subject = x })) (Some found))
chosen breaks who now x first found true test next one least =
    let less : first < found.rule = grind (arith, nat_tests) in (
      next.new,
      one.0,
      λ rule y among broken.
          ⊎_elim (λ old. inl (let le : found.rule ≤ rule = rule_at_most _ _ _ _ (least.2 rule y old broken) in omega arith))
          (λ same. at_most first x.number rule y (from_first breaks first x.number rule y one.1 same broken) (omega arith))
          (next.only y among),
    )
chosen breaks who now x first found false test next one least =
    let le : found.rule ≤ first = grind (arith, nat_tests) in (
      next.kept _ least.0,
      least.1,
      λ rule y among broken.
          ⊎_elim (λ old. least.2 rule y old broken)
          (λ same. at_most found.rule found.subject.number rule y
          (let from : first ≤ rule = from_first breaks first x.number rule y one.1 same broken in omega arith)
          (let under : found.subject.number < x.number = next.below found.subject.number least.0 in omega arith))
          (next.only y among),
    )

-- the lesser of the fault so far and that of the next subject
pub least_next : (breaks : ℕ → ℕ → Bool) (who now : ℕ → Bool) (x : Id) (first : Option ℕ) (least : Option Break) → IsNext who now x.number → IsFirst breaks x.number first
    → IsLeast breaks who least → IsLeast breaks now (lesser_of least first x)
least_next breaks who now x None None next one least = λ rule y among broken.
    ⊎_elim (λ old. least rule y old broken) (λ same. never_both (breaks rule x.number) (ap (breaks rule) (sym same) ∙ broken) (one rule)) (next.only y among)
least_next breaks who now x None (Some found) next one least = (
  next.kept _ least.0,
  least.1,
  λ rule y among broken.
      ⊎_elim (λ old. least.2 rule y old broken) (λ same. absurd (never_both (breaks rule x.number) (ap (breaks rule) (sym same) ∙ broken) (one rule))) (next.only y among),
)
least_next breaks who now x (Some first) None next one least = (
  next.new,
  one.0,
  λ rule y among broken.
      ⊎_elim (λ old. absurd (least rule y old broken)) (λ same. at_most first x.number rule y (from_first breaks first x.number rule y one.1 same broken) (omega arith)) (next.only y among),
)
least_next breaks who now x (Some first) (Some found) next one least = chosen breaks who now x first found (ltb first found.rule) refl next one least

-- ---- the walk

-- some subjects are done, and the fault so far is their least
pub record IsWalk (breaks : ℕ → ℕ → Bool) (m done rest : List Statement) (least : Option Break) : Type 0 where
  pub split : IsSplit m done rest
  pub lowest : IsLeast breaks (is_subject done) least

pub walk_begins : (breaks : ℕ → ℕ → Bool) (m left : List Statement) → left ≡ m → IsOrdered m → IsWalk breaks m [] left None
walk_begins breaks m left same ordered = record { split = split_begins m left same ordered; lowest = λ rule x h g. absurd cc }

next_of : (m done them after : List Statement) (x : ℕ) → IsNextRun m done them after x → IsNext (is_subject done) (is_subject (done ++ them)) x
next_of m done them after x next = record {
  kept = λ y h. list_any-append (is_about y) done them ∙ or_left _ _ h;
  new = list_any-append (is_about x) done them ∙ or_right _ _ next.some;
  only = λ y h. ⊎_elim (λ old. inl old) (λ new. inr (next.one y new)) (or_cases _ _ (sym (list_any-append (is_about y) done them) ∙ h));
  below = next.below;
}

-- the statements that come off are all that is said of their subject
pub walk_run : (breaks : ℕ → ℕ → Bool) (m done left after them : List Statement) (id : Id) (o : Option (Id × List Statement)) (least : Option Break) → IsWalk breaks m done left least
    → o ≡ Some (id, them) → TakesSubject left o after → them ≡ about m id.number
walk_run breaks m done left after them id o least walk is taken = (split_step m done left after them id o walk.split is taken).all

pub walk_steps : (breaks : ℕ → ℕ → Bool) (m done left after them : List Statement) (id : Id) (o : Option (Id × List Statement)) (least now : Option Break) → IsWalk breaks m done left least
    → o ≡ Some (id, them) → TakesSubject left o after → IsLesserBy (IsFirst breaks id.number) least id now → (more : List Statement) × IsWalk breaks m more after now
walk_steps breaks m done left after them id o least now walk is taken (rule, first, lesser) =
    let next = split_step m done left after them id o walk.split is taken in (
      done ++ them,
      record {
        split = next.split;
        lowest = subst (IsLeast breaks (is_subject (done ++ them))) (sym lesser) (least_next breaks (is_subject done) (is_subject (done ++ them)) id rule least (next_of m done them after id.number next) first walk.lowest);
      },
    )

pub walk_ends : (breaks : ℕ → ℕ → Bool) (m done left after : List Statement) (o : Option (Id × List Statement)) (least : Option Break) → IsWalk breaks m done left least
    → o ≡ None → TakesSubject left o after → IsLeast breaks (is_subject m) least
walk_ends breaks m done left after o least walk is taken = subst (λ (all : List Statement). IsLeast breaks (is_subject all) least) (split_ends m done left after o walk.split is taken) walk.lowest
