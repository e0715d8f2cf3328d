-- Why bytes are no document of a difference, of this project: the fault that decides, and its line.
use Rattle.std.specs.Prelude.{ℕ, ◌+◌, ◌≡◌, ◌≢◌, ◌<◌, ◌≤◌, ◌⊎◌, List, ◌∷◌, ◌++◌, length, Some, None}
use Rattle.cim_words.specs.declared.statement.Statement.{Statement}
use Rattle.nt_text.specs.Document.{lines_of}
use Rattle.nt_text.specs.Reading.{holds, refused, IsReading}
use Rattle.nt_text.specs.declared.refusal.LineRefusal.{LineRefusal}
use Rattle.nt_text.specs.declared.refusal.LineRefusal.TheVariants as why
use Rattle.room_words.specs.Differences.{Changes, most_bytes, most_listed, written_difference}
use Rattle.room_words.specs.declared.heading.Heading.{Heading}
use Rattle.room_words.specs.declared.heading.Heading.TheVariants as heading
use Rattle.room_words.specs.declared.stage_fault.StageFault.{StageFault}
use Rattle.room_words.specs.declared.stage_fault.StageWord.{StageWord}
use Rattle.room_words.specs.declared.stage_fault.StageWord.TheVariants as word
use Rattle.difference.specs.Document.{IsHeading, IsMarked, Lead, MayCome, Standing, at_start, list_of}

-- A line without a percent sign in front is refused as a line of N-Triples is.
abbrev pub IsRefused : List ℕ → LineRefusal → Type 0
IsRefused line reason = (IsMarked line → ⊥) × IsReading line (refused reason)

-- a line with a percent sign in front is no heading that may come here
abbrev pub IsNoHeading : List ℕ → Standing → Type 0
IsNoHeading line standing = IsMarked line × ((h : Heading) → IsHeading line h → MayCome standing.under h → ⊥)

-- a triple stands before the first heading, or after the last one
abbrev pub IsNowhere : List ℕ → Standing → Type 0
IsNowhere line standing = (s : Statement) × IsReading line (holds s) × (list_of standing.under standing.said ≡ None)

-- a triple stands under a heading whose list is full
abbrev pub IsBeyond : List ℕ → Standing → Type 0
IsBeyond line standing =
    (s : Statement) × (listed : List Statement) × IsReading line (holds s) × (list_of standing.under standing.said ≡ Some listed)
    × (most_listed ≤ length listed)

-- what is wrong with a line at a standing
abbrev pub IsLineFault : List ℕ → Standing → StageWord → Type 0
IsLineFault line standing word.LineTooLong = IsRefused line why.LineTooLong
IsLineFault line standing word.Utf8 = IsRefused line why.Utf8
IsLineFault line standing word.Blank = IsRefused line why.Blank
IsLineFault line standing word.Syntax = IsRefused line why.Syntax
IsLineFault line standing word.Subject = IsRefused line why.Subject
IsLineFault line standing word.Wide = IsRefused line why.Wide
IsLineFault line standing word.Heading = IsNoHeading line standing ⊎ IsNowhere line standing
IsLineFault line standing word.TooMany = IsBeyond line standing
IsLineFault line standing other = ⊥

-- The first line at fault, counted from 1: the lines before it lead to a standing at which it has a fault.
pub record HasFault (bytes : List ℕ) (number : ℕ) (fault : StageWord) : Type 0 where
  pub before : List (List ℕ)
  pub bad : List ℕ
  pub after : List (List ℕ)
  pub standing : Standing
  pub lines : lines_of bytes ≡ before ++ bad ∷ after
  pub counted : number ≡ length before + 1
  pub lead : Lead before at_start standing
  pub wrong : IsLineFault bad standing fault

-- no line is at fault, and the last heading did not come
pub record HasNoEnd (bytes : List ℕ) (number : ℕ) : Type 0 where
  pub standing : Standing
  pub lead : Lead (lines_of bytes) at_start standing
  pub unended : standing.under ≢ Some heading.End
  pub counted : number ≡ length (lines_of bytes)

-- the document has no other fault, and the written form of what it says is too long
pub record IsWrittenTooLong (bytes : List ℕ) : Type 0 where
  pub said : Changes
  pub lead : Lead (lines_of bytes) at_start (record { under = Some heading.End; said = said })
  pub long : most_bytes < length (written_difference said)

-- The fault of a document. One that is too long has no other; else the first line at fault decides, then the missing end, and last the
-- length of the written form.
abbrev pub IsFaultAt : List ℕ → ℕ → StageWord → Type 0
IsFaultAt bytes number word.TooLong = (number ≡ 0) × ((most_bytes < length bytes) ⊎ IsWrittenTooLong bytes)
IsFaultAt bytes number word.NoEnd = (length bytes ≤ most_bytes) × HasNoEnd bytes number
IsFaultAt bytes number other = (length bytes ≤ most_bytes) × HasFault bytes number other

abbrev pub IsFault : List ℕ → StageFault → Type 0
IsFault bytes fault = IsFaultAt bytes fault.line fault.word
