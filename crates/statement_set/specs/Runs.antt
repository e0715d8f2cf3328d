-- The statements about one subject, which stand together in an ordered list, of this project.
use Rattle.std.specs.Prelude.{ℕ, ◌≡◌, ◌==◌, List, [], ◌∷◌, take, drop, Option, Some, None}
use Rattle.std.specs.List.{prefix_len}
use Rattle.cim_words.specs.declared.identifier.Id.{Id}
use Rattle.cim_words.specs.declared.statement.Statement.{Statement}

-- how many statements at the front are about the subject of the first one
abbrev pub run_of : List Statement → ℕ
run_of [] = 0
run_of (s ∷ rest) = prefix_len (λ (t : Statement). t.subject.number == s.subject.number) (s ∷ rest)

-- the subject of the first statement with the statements at the front about it, where there are any
abbrev pub first_subject : List Statement → Option (Id × List Statement)
first_subject [] = None
first_subject (s ∷ rest) = Some (s.subject, take (run_of (s ∷ rest)) (s ∷ rest))

-- a step takes these off the front
abbrev pub TakesSubject : List Statement → Option (Id × List Statement) → List Statement → Type 0
TakesSubject left taken after = (taken ≡ first_subject left) × (after ≡ drop (run_of left) left)
