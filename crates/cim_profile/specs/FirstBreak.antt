-- The least fault of a model, by the number of its rule and then by its subject.
use Rattle.std.specs.Prelude.{ℕ, ◌≡◌, ◌<◌, ◌≤◌, ◌⊎◌, List, Option, Some, None}
use Rattle.cim_model.specs.Profile.{IsFault, IsFaultless}
use Rattle.cim_profile.specs.declared.faults.Break.{Break}
use Rattle.cim_words.specs.declared.statement.Statement.{Statement}

-- a fault stands before another by its rule, and then by its subject
abbrev pub IsAtMost : ℕ → ℕ → ℕ → ℕ → Type 0
IsAtMost rule x other y = (rule < other) ⊎ ((rule ≡ other) × (x ≤ y))

-- the least fault of a model, or none where it breaks no rule
abbrev pub IsFirstBreak : List Statement → Option Break → Type 0
IsFirstBreak m None = IsFaultless m
IsFirstBreak m (Some b) = IsFault m b.rule b.subject.number × ((rule x : ℕ) → IsFault m rule x → IsAtMost b.rule b.subject.number rule x)
