-- The rules of a stage, asked one after another.
use Rattle.std.proofs.Common.{◌≡◌, ℕ, ◌+◌, ◌≤◌, ◌<◌, List, length, get_or, map, true, false, refl, sym, ap, ◌∙◌, arith, ⊎_elim, Some}
use Rattle.std.specs.List.{range_with_len}
use Rattle.std.proofs.lemmas.Bool.{cases_lt}
use Rattle.std.proofs.lemmas.Bool.Decides.{nat_tests}
use Rattle.std.proofs.lemmas.List.{get_or-map, get_or_past, length-map}
use Rattle.std.proofs.lemmas.List.FromFn.{get_or-range_with_len}
use Rattle.std.proofs.Math.Bool.{and-false}
use Rattle.cim_words.specs.declared.statement.Statement.{Statement}
use Rattle.cim_model.specs.Profile.{breaks, verdicts}
use Rattle.cim_profile.specs.Rule.{number, numbers}
use Rattle.cim_profile.specs.Walk.{breaks_in, covers, numbers_of, IsFirst}
use Rattle.cim_profile.specs.declared.rule.Rule.{Rule}
use Rattle.cim_profile.specs.declared.rule.Rule.TheVariants.{Place}
use Rattle.cim_profile.specs.declared.stage.Stage.{Stage}
use Rattle.cim_profile.specs.declared.stage.Stage.TheVariants.{Repeats, Rest}
use Rattle.cim_profile.specs.declared.stage.TheConstants.{ON_REPEATS}

-- ---- the numbers of the rules of a stage

-- how many rules stand before those of a stage
abbrev before : Stage → ℕ
before Repeats = 0
before Rest = ON_REPEATS

one_by_one : (stage : Stage) → numbers_of stage ≡ range_with_len (1 + before stage) (length (numbers_of stage))
one_by_one Repeats = refl
one_by_one Rest = refl

covers_at : (stage : Stage) (asked : ℕ) → asked < length (numbers_of stage) → covers stage (1 + before stage + asked) ≡ true
covers_at Repeats asked within = grind (arith, nat_tests)
covers_at Rest asked within = grind (arith, nat_tests)

-- the rule that is asked after so many others of its stage, by number
pub record IsAsked (stage : Stage) (asked rule : ℕ) : Type 0 where
  pub place : rule ≡ 1 + before stage + asked
  pub covered : covers stage rule ≡ true

counted : (stage : Stage) (rules : List Rule) → map number rules ≡ numbers_of stage → length rules ≡ length (numbers_of stage)
counted stage rules are = sym (length-map rules number) ∙ ap length are

pub is_asked : (stage : Stage) (rules : List Rule) (asked : ℕ) (otherwise : Rule) → map number rules ≡ numbers_of stage → asked < length rules → IsAsked stage asked (number (get_or rules asked otherwise))
is_asked stage rules asked otherwise are within =
    let inside : asked < length (numbers_of stage) = omega (arith, counted stage rules are) in
    let place : number (get_or rules asked otherwise) ≡ 1 + before stage + asked =
    sym (get_or-map number rules asked otherwise 0 within) ∙ ap (λ (all : List ℕ). get_or all asked 0) (are ∙ one_by_one stage) ∙ get_or-range_with_len (1 + before stage) (length (numbers_of stage)) asked 0 inside in
    record { place = place; covered = rw place (covers_at stage asked inside) }

-- the rule on places is none of the first stage
covers_place : (stage : Stage) → covers stage (number Place) ≡ true → stage ≡ Rest
covers_place Repeats covered = absurd cc
covers_place Rest covered = refl

pub on_places : (stage : Stage) (asked : ℕ) (rule : Rule) → IsAsked stage asked (number rule) → rule ≡ Place → stage ≡ Rest
on_places stage asked rule at is = covers_place stage (ap (λ (rule : Rule). covers stage (number rule)) (sym is) ∙ at.covered)

-- ---- the rules that were asked

-- a subject breaks none of the first rules of a stage
abbrev pub AreKept : Stage → List Statement → ℕ → ℕ → Type 0
AreKept stage m x asked = (rule : ℕ) → rule ≤ before stage + asked → breaks_in stage m rule x ≡ false

pub none_asked : (stage : Stage) (m : List Statement) (x : ℕ) → AreKept stage m x 0
none_asked Repeats m x rule within = let first : rule ≡ 0 = omega arith in rw first refl
none_asked Rest m x rule within = let earlier : covers Rest rule ≡ false = grind (arith, nat_tests) in rw earlier refl

pub one_more : (stage : Stage) (m : List Statement) (x asked next : ℕ) → IsAsked stage asked next → AreKept stage m x asked → breaks m next x ≡ false → AreKept stage m x (asked + 1)
one_more stage m x asked next at kept this rule until =
    ⊎_elim (λ less. kept rule (omega arith))
    (λ more. let same : rule ≡ next = omega (arith, at.place) in rw same (rw this (and-false (covers stage next))))
    (cases_lt rule (1 + before stage + asked))

pub found : (stage : Stage) (m : List Statement) (x asked next first : ℕ) → IsAsked stage asked next → AreKept stage m x asked → breaks m next x ≡ true → first ≡ next → IsFirst (breaks_in stage m) x (Some first)
found stage m x asked next first at kept this is = (rw is (rw at.covered this), λ rule less. kept rule (omega (arith, at.place)))

-- there is no rule after the last one
past_last : (m : List Statement) (rule x : ℕ) → length numbers < rule → breaks m rule x ≡ false
past_last m rule x past = get_or_past (verdicts m x) rule false (omega arith)

all_kept : (stage : Stage) (m : List Statement) (x : ℕ) → AreKept stage m x (length (numbers_of stage)) → (rule : ℕ) → breaks_in stage m rule x ≡ false
all_kept Repeats m x kept rule =
    ⊎_elim (λ past. let later : covers Repeats rule ≡ false = grind (arith, nat_tests) in rw later refl) (λ within. kept rule within) (cases_lt ON_REPEATS rule)
all_kept Rest m x kept rule =
    ⊎_elim (λ past. rw (past_last m rule x past) (and-false (covers Rest rule))) (λ within. kept rule within) (cases_lt (length numbers) rule)

pub none_left : (stage : Stage) (m : List Statement) (x : ℕ) (rules : List Rule) (asked : ℕ) → map number rules ≡ numbers_of stage → length rules ≤ asked → AreKept stage m x asked → (rule : ℕ) → breaks_in stage m rule x ≡ false
none_left stage m x rules asked are all kept = all_kept stage m x (λ rule within. kept rule (omega (arith, counted stage rules are)))
