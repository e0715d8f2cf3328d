-- The walks over the subjects of a model, one for each stage of the rules.
use Rattle.std.specs.Prelude.{ℕ, ◌≡◌, ◌<◌, List, Bool, true, false, not, ◌&&◌, Option, Some, None, if◌then◌else◌, nat_lt}
use Rattle.std.specs.List.{filter}
use Rattle.cim_words.specs.declared.identifier.Id.{Id}
use Rattle.cim_words.specs.declared.statement.Statement.{Statement}
use Rattle.cim_model.specs.Profile.{breaks}
use Rattle.cim_profile.specs.FirstBreak.{IsAtMost}
use Rattle.cim_profile.specs.Rule.{numbers}
use Rattle.cim_profile.specs.declared.faults.Break.{Break}
use Rattle.cim_profile.specs.declared.stage.Stage.{Stage}
use Rattle.cim_profile.specs.declared.stage.Stage.TheVariants as stage
use Rattle.cim_profile.specs.declared.stage.TheConstants.{ON_REPEATS}

-- the fault so far, or that of a later subject where it is by an earlier rule
abbrev pub lesser_of : Option Break → Option ℕ → Id → Option Break
lesser_of least None subject = least
lesser_of None (Some rule) subject = Some (record { rule = rule; subject = subject })
lesser_of (Some found) (Some rule) subject = if nat_lt rule found.rule then Some (record { rule = rule; subject = subject }) else Some found

-- the same by some rule of the later subject, or none, of which a fact holds
abbrev pub IsLesserBy : (Option ℕ → Type 0) → Option Break → Id → Option Break → Type 0
IsLesserBy IsRule least subject now = (rule : Option ℕ) × IsRule rule × (now ≡ lesser_of least rule subject)

-- whether a stage covers a rule, by number, and whether a subject breaks a rule that it covers
abbrev pub covers : Stage → ℕ → Bool
covers stage.Repeats rule = not (nat_lt ON_REPEATS rule)
covers stage.Rest rule = nat_lt ON_REPEATS rule

abbrev pub breaks_in : Stage → List Statement → ℕ → ℕ → Bool
breaks_in stage m rule x = covers stage rule && breaks m rule x

-- the numbers of the rules that a stage covers, in their order
abbrev pub numbers_of : Stage → List ℕ
numbers_of stage = filter (covers stage) numbers

-- the first of some rules that a subject breaks, or none, and the first of those of a stage
abbrev pub IsFirst : (ℕ → ℕ → Bool) → ℕ → Option ℕ → Type 0
IsFirst breaks x None = (rule : ℕ) → breaks rule x ≡ false
IsFirst breaks x (Some first) = (breaks first x ≡ true) × ((rule : ℕ) → rule < first → breaks rule x ≡ false)

abbrev pub IsFirstIn : Stage → List Statement → ℕ → Option ℕ → Type 0
IsFirstIn stage m x rule = IsFirst (breaks_in stage m) x rule

-- the least of the faults of some subjects by some rules, or none
abbrev pub IsLeast : (ℕ → ℕ → Bool) → (ℕ → Bool) → Option Break → Type 0
IsLeast breaks who None = (rule x : ℕ) → who x ≡ true → breaks rule x ≡ true → ⊥
IsLeast breaks who (Some b) =
    (who b.subject.number ≡ true) × (breaks b.rule b.subject.number ≡ true) × ((rule x : ℕ) → who x ≡ true → breaks rule x ≡ true → IsAtMost b.rule b.subject.number rule x)
