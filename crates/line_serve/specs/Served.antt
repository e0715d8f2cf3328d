-- What one session over a link was: what was read, what was answered, what was written, and how it ended. All of it is of this project.
use Rattle.std.specs.Prelude.{◌≡◌, ℕ, ◌<◌, ◌≤◌, ◌+◌, Bool, true, false, IsTrue, List, [], ◌∷◌, ◌++◌, length, take, Option, Some, IfSome}
use Rattle.grid_out.specs.Link.{TakesOff}
use Rattle.grid_out.specs.Sink.{Gains}
use Rattle.line_serve.specs.AnsweredLines.{Answer, AnsweredLine, AreAnswered, all_go_on, all_told, bytes_of, is_bye, is_one_line, most_input, most_line, told}
use Rattle.line_serve.specs.declared.serving.LinesEnd.{LinesEnd}
use Rattle.line_serve.specs.declared.serving.LinesEnd.TheVariants as end

-- the lines end with this one, and the session went on after all before it
abbrev pub EndsWith : List AnsweredLine → (AnsweredLine → Type 0) → Type 0
EndsWith lines Last = (before : List AnsweredLine) × (last : AnsweredLine) × (lines ≡ before ++ last ∷ [])
    × IsTrue (all_go_on before) × Last last

-- How a session ends, by the lines that were answered and the bytes that were taken behind them. By `Bye` or by a fault of writing it
-- ends at a line, and what was taken behind it does not matter. Else every line that was read whole was answered, and what is left is
-- the begun line: no more than a line may have, or more.
abbrev pub EndsBy : LinesEnd → List AnsweredLine → List ℕ → Type 0
EndsBy end.Bye lines rest = EndsWith lines (λ last. IsTrue (is_bye last.answer))
EndsBy end.WriteFault lines rest = EndsWith lines (λ last. 0 < length (told last.answer))
EndsBy end.Ended lines rest =
    IsTrue (all_go_on lines) × IsTrue (is_one_line rest) × (length rest ≤ most_line) × (length (bytes_of lines ++ rest) < most_input)
EndsBy end.ReadFault lines rest =
    IsTrue (all_go_on lines) × IsTrue (is_one_line rest) × (length rest ≤ most_line) × (length (bytes_of lines ++ rest) < most_input)
EndsBy end.LongLine lines rest =
    IsTrue (all_go_on lines) × (most_line < length rest) × IsTrue (is_one_line (take (most_line + 1) rest))
EndsBy end.Spent lines rest =
    IsTrue (all_go_on lines) × IsTrue (is_one_line rest) × (length rest ≤ most_line) × (length (bytes_of lines ++ rest) ≡ most_input)

-- What was written: the answers to all lines; after a fault of writing, those before the last line and a front part of the last one's.
abbrev pub WritesBy : LinesEnd → List AnsweredLine → Option (List ℕ) → Option (List ℕ) → Type 0
WritesBy end.WriteFault lines old new = (before : List AnsweredLine) × (last : AnsweredLine) × (lines ≡ before ++ last ∷ [])
    × ((n : ℕ) × Gains old new (all_told before ++ take n (told last.answer)))
WritesBy end.Bye lines old new = Gains old new (all_told lines)
WritesBy end.Ended lines old new = Gains old new (all_told lines)
WritesBy end.ReadFault lines old new = Gains old new (all_told lines)
WritesBy end.LongLine lines old new = Gains old new (all_told lines)
WritesBy end.Spent lines old new = Gains old new (all_told lines)

-- where a session ended since the input did, a link that tells has nothing left
abbrev pub LeavesNothing : LinesEnd → Option (List ℕ) → Option (List ℕ) → Type 0
LeavesNothing ended old new = (ended ≡ end.Ended) → IfSome old (λ _. new ≡ Some [])

-- whether a session ended by a fault of reading, and by one of writing
abbrev pub is_read_fault : LinesEnd → Bool
is_read_fault end.ReadFault = true
is_read_fault end.Bye = false
is_read_fault end.Ended = false
is_read_fault end.WriteFault = false
is_read_fault end.LongLine = false
is_read_fault end.Spent = false

abbrev pub is_write_fault : LinesEnd → Bool
is_write_fault end.WriteFault = true
is_write_fault end.Bye = false
is_write_fault end.Ended = false
is_write_fault end.ReadFault = false
is_write_fault end.LongLine = false
is_write_fault end.Spent = false

-- One session: the bytes that were taken from the link begin with the lines that were answered, one after another, and what is said
-- above holds of them, of what was taken behind them and of what was written.
pub record IsServed {A : Type 0} (answers : A → List ℕ → Answer → A → Type 0) (before : A) (ended : LinesEnd) (after : A)
    (left_before left_after written_before written_after : Option (List ℕ)) : Type 0 where
  pub lines : List AnsweredLine
  pub rest : List ℕ
  pub answered : AreAnswered answers before lines after
  pub within : length (bytes_of lines ++ rest) ≤ most_input
  pub taken : TakesOff left_before left_after (bytes_of lines ++ rest)
  pub ends : EndsBy ended lines rest
  pub writes : WritesBy ended lines written_before written_after
