-- The lines that come over a link, each with its answer. All of it is of this project.
use Rattle.std.specs.Prelude.{◌≡◌, ℕ, ◌≤◌, ◌==◌, not, Bool, true, false, IsTrue, List, [], ◌∷◌, ◌++◌, length, Option, Some, None, codes, if◌then◌else◌}
use Rattle.std.specs.List.{flat_map, list_all}
use Rattle.cim_words.specs.Written.{carriage_return, line_feed}
use Rattle.line_serve.specs.declared.answerer.Next.{Next}
use Rattle.line_serve.specs.declared.answerer.Next.TheVariants as next

-- the most bytes of a line without its line feed, and the most that are read in one session
abbrev pub most_line : ℕ
most_line = 8192

abbrev pub most_input : ℕ
most_input = 1073741824

-- what an answerer says to a line: whether the session goes on, with the text of the answer;
-- or none, where memory did not suffice
abbrev pub Answer : Type 0
Answer = Option (Next × List ℕ)

-- the line that is written where memory did not suffice
abbrev pub memory_line : List ℕ
memory_line = codes "memory" ++ line_feed ∷ []

-- the bytes that are written for an answer: its text, or the word `memory` as a line
abbrev pub told : Answer → List ℕ
told (Some answer) = answer.1
told None = memory_line

-- whether an answer ends the session
abbrev pub is_bye : Answer → Bool
is_bye (Some (next.Bye, _)) = true
is_bye (Some (next.Go, _)) = false
is_bye None = false

-- a line as it came, without its line feed, and its answer
pub record AnsweredLine : Type 0 where
  pub came : List ℕ
  pub answer : Answer

-- a line is answered without one carriage return at its end
abbrev pub without_return : List ℕ → List ℕ
without_return [] = []
without_return (byte ∷ []) = if byte == carriage_return then [] else byte ∷ []
without_return (byte ∷ next ∷ rest) = byte ∷ without_return (next ∷ rest)

-- whether bytes have no line feed among them
abbrev pub is_one_line : List ℕ → Bool
is_one_line = list_all (λ byte. not (byte == line_feed))

-- the bytes of lines as they came, and what is written for them
abbrev pub bytes_of : List AnsweredLine → List ℕ
bytes_of = flat_map (λ line. line.came ++ line_feed ∷ [])

abbrev pub all_told : List AnsweredLine → List ℕ
all_told = flat_map (λ line. told line.answer)

-- Each line is one line and not too long, and is answered from the state in which the answer before it left the answerer.
abbrev pub AreAnswered : {A : Type 0} → (A → List ℕ → Answer → A → Type 0) → A → List AnsweredLine → A → Type 0
AreAnswered answers before [] after = before ≡ after
AreAnswered answers before (line ∷ lines) after =
    IsTrue (is_one_line line.came) × (length line.came ≤ most_line)
    × ((between : _) × answers before (without_return line.came) line.answer between
    × AreAnswered answers between lines after)

-- whether the session goes on after all of these lines
abbrev pub all_go_on : List AnsweredLine → Bool
all_go_on = list_all (λ line. not (is_bye line.answer))
