-- Parts of a session: a line that is begun, the answer to one line, and the lines of a piece of the input. All of it is of this project.
use Rattle.std.specs.Prelude.{◌≡◌, ℕ, ◌<◌, ◌≤◌, ◌+◌, Bool, true, false, not, IsTrue, List, ◌++◌, length, take, Option, Result, Ok, Err}
use Rattle.grid_out.specs.Sink.{Gains, GainsPrefix}
use Rattle.grid_out.specs.declared.failure.Failed.{Failed}
use Rattle.line_serve.specs.AnsweredLines.{Answer, AnsweredLine, AreAnswered, all_go_on, all_told, bytes_of, is_bye, is_one_line, most_line, told}
use Rattle.line_serve.specs.Served.{EndsBy, WritesBy}
use Rattle.line_serve.specs.declared.answerer.Next.{Next}
use Rattle.line_serve.specs.declared.answerer.Next.TheVariants as next
use Rattle.line_serve.specs.declared.serving.LinesEnd.{LinesEnd}
use Rattle.line_serve.specs.declared.serving.LinesEnd.TheVariants as end

-- bytes that may be the begun line: no line feed is among them, and they are no more than a line may have
pub record IsBegun (begun : List ℕ) : Type 0 where
  pub one_line : IsTrue (is_one_line begun)
  pub short : length begun ≤ most_line

-- bytes that begin with a line that is too long
pub record IsTooLong (bytes : List ℕ) : Type 0 where
  pub long : most_line < length bytes
  pub one_line : IsTrue (is_one_line (take (most_line + 1) bytes))

-- What was written for an answer, and how the session goes on: by its text it goes on or ends as the answer says, and a fault of writing
-- comes only where there was something to write.
abbrev pub WritesAnswer : Result Next Failed → Answer → Option (List ℕ) → Option (List ℕ) → Type 0
WritesAnswer (Ok next.Go) answer old new = IsTrue (not (is_bye answer)) × Gains old new (told answer)
WritesAnswer (Ok next.Bye) answer old new = IsTrue (is_bye answer) × Gains old new (told answer)
WritesAnswer (Err failed) answer old new = (0 < length (told answer)) × GainsPrefix old new (told answer)

-- one line, its answer, and what was written for it
pub record IsAnswered {A : Type 0} (answers : A → List ℕ → Answer → A → Type 0) (before : A) (line : List ℕ)
    (result : Result Next Failed) (after : A) (written_before written_after : Option (List ℕ)) : Type 0 where
  pub answer : Answer
  pub answered : answers before line answer after
  pub writes : WritesAnswer result answer written_before written_after

-- A session that goes on: these bytes begin with lines, all of them answered, and these bytes are left behind them.
pub record GoesOn {A : Type 0} (answers : A → List ℕ → Answer → A → Type 0) (before after : A) (bytes left : List ℕ)
    (written_before written_after : Option (List ℕ)) : Type 0 where
  pub lines : List AnsweredLine
  pub answered : AreAnswered answers before lines after
  pub go_on : IsTrue (all_go_on lines)
  pub parts : bytes ≡ bytes_of lines ++ left
  pub writes : Gains written_before written_after (all_told lines)

-- whether a session ends so while it goes over bytes that were read
abbrev pub is_inside : LinesEnd → Bool
is_inside end.Bye = true
is_inside end.WriteFault = true
is_inside end.LongLine = true
is_inside end.Ended = false
is_inside end.ReadFault = false
is_inside end.Spent = false

-- A session that ends while it goes over these bytes.
pub record Stops {A : Type 0} (answers : A → List ℕ → Answer → A → Type 0) (before : A) (ended : LinesEnd) (after : A) (bytes : List ℕ)
    (written_before written_after : Option (List ℕ)) : Type 0 where
  pub lines : List AnsweredLine
  pub rest : List ℕ
  pub answered : AreAnswered answers before lines after
  pub parts : bytes ≡ bytes_of lines ++ rest
  pub inside : IsTrue (is_inside ended)
  pub ends : EndsBy ended lines rest
  pub writes : WritesBy ended lines written_before written_after
