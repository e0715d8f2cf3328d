-- The least fault of a model, from those of the two stages of its rules.
use Rattle.std.proofs.Common.{◌≡◌, ℕ, ◌<◌, ◌≤◌, List, Bool, true, false, ◌||◌, ◌&&◌, not, inl, Option, Some, None, refl, sym, subst, ◌∙◌, arith, ⊎_elim, ltb}
use Rattle.std.proofs.lemmas.Bool.Decides.{nat_tests}
use Rattle.std.proofs.lemmas.Bool.{or_cases, or_left, or_right}
use Rattle.cim_profile.specs.FirstBreak.{IsFirstBreak}
use Rattle.cim_words.specs.declared.statement.Statement.{Statement}
use Rattle.cim_model.specs.Model.{is_subject}
use Rattle.cim_model.specs.Profile.{breaks}
use Rattle.cim_profile.specs.Walk.{IsLeast, breaks_in, covers}
use Rattle.cim_profile.specs.declared.faults.Break.{Break}
use Rattle.cim_profile.specs.declared.stage.Stage.TheVariants.{Repeats, Rest}
use Rattle.cim_profile.specs.declared.stage.TheConstants.{ON_REPEATS}

-- ---- the rules of the two stages

in_parts : (later broken : Bool) → broken ≡ (not later && broken || later && broken)
in_parts true broken = refl
in_parts false true = refl
in_parts false false = refl

by_stage : (m : List Statement) (rule x : ℕ) → breaks m rule x ≡ (breaks_in Repeats m rule x || breaks_in Rest m rule x)
by_stage m rule x = in_parts (ltb ON_REPEATS rule) (breaks m rule x)

covered : (covers_it broken : Bool) → (covers_it && broken) ≡ true → covers_it ≡ true
covered true broken both = refl
covered false broken both = both

-- each rule of the first stage stands before each of the second
early : (m : List Statement) (rule x : ℕ) → breaks_in Repeats m rule x ≡ true → rule ≤ ON_REPEATS
early m rule x broken = let in_first : covers Repeats rule ≡ true = covered (covers Repeats rule) (breaks m rule x) broken in grind (arith, nat_tests)

late : (m : List Statement) (rule x : ℕ) → breaks_in Rest m rule x ≡ true → ON_REPEATS < rule
late m rule x broken = let in_second : covers Rest rule ≡ true = covered (covers Rest rule) (breaks m rule x) broken in grind (arith, nat_tests)

-- ---- the least fault

first_of_repeats : (m : List Statement) (b : Break) → IsLeast (breaks_in Repeats m) (is_subject m) (Some b) → IsFirstBreak m (Some b)
first_of_repeats m b least = (
  record { subject = least.0; broken = by_stage m b.rule b.subject.number ∙ or_left _ _ least.1 },
  λ rule x fault.
      ⊎_elim (λ here. least.2 rule x fault.subject here)
      (λ there.
      let before : b.rule ≤ ON_REPEATS = early m b.rule b.subject.number least.1 in
      let from : ON_REPEATS < rule = late m rule x there in inl (omega arith))
      (or_cases _ _ (sym (by_stage m rule x) ∙ fault.broken)),
)

first_of_rest : (m : List Statement) (least : Option Break) → IsLeast (breaks_in Repeats m) (is_subject m) None → IsLeast (breaks_in Rest m) (is_subject m) least → IsFirstBreak m least
first_of_rest m None none least = λ rule x fault. ⊎_elim (λ here. none rule x fault.subject here) (λ there. least rule x fault.subject there) (or_cases _ _ (sym (by_stage m rule x) ∙ fault.broken))
first_of_rest m (Some b) none least = (
  record { subject = least.0; broken = by_stage m b.rule b.subject.number ∙ or_right _ _ least.1 },
  λ rule x fault. ⊎_elim (λ here. absurd (none rule x fault.subject here)) (λ there. least.2 rule x fault.subject there) (or_cases _ _ (sym (by_stage m rule x) ∙ fault.broken)),
)

-- the same for a list that is the model's
pub repeats_first : (m list : List Statement) (b : Break) → m ≡ list → IsLeast (breaks_in Repeats m) (is_subject m) (Some b) → IsFirstBreak list (Some b)
repeats_first m list b same least = subst (λ (all : List Statement). IsFirstBreak all (Some b)) same (first_of_repeats m b least)

pub rest_first : (m list : List Statement) (least : Option Break) → m ≡ list → IsLeast (breaks_in Repeats m) (is_subject m) None → IsLeast (breaks_in Rest m) (is_subject m) least → IsFirstBreak list least
rest_first m list least same none rest = subst (λ (all : List Statement). IsFirstBreak all least) same (first_of_rest m least none rest)
