-- One session of a console, of this project.
use Rattle.std.specs.Prelude.{ℕ, ◌≡◌, ◌≤◌, ◌+◌, List, ◌++◌, length, Option, None}
use Rattle.board.specs.Lists.{IsPrefix}
use Rattle.cim_words.specs.declared.statement.Statement.{Statement}
use Rattle.desk.specs.Ends.{PostState}
use Rattle.grid_out.specs.Link.{TakesOff}
use Rattle.line_serve.specs.AnsweredLines.{AnsweredLine, bytes_of, most_input}
use Rattle.line_serve.specs.Served.{EndsBy, WritesBy}
use Rattle.line_serve.specs.declared.serving.LinesEnd.{LinesEnd}
use Rattle.room_words.specs.Differences.{Changes}
use Rattle.room_words.specs.declared.event.Entry.{Entry}
use Rattle.session_host.specs.Exchanges.{AreAnswered, Exchange, MakeUp}
use Rattle.session_host.specs.Views.{View, opened}

-- A console keeps its seat through a session, has seen no less than before, and has looked at most once for each byte of input.
pub record StaysSeated {V O : Type 0} (before after : PostState V O) : Type 0 where
  pub console : after.reader.console ≡ before.reader.console
  pub board : after.reader.board ≡ before.reader.board
  pub origin : after.reader.origin ≡ before.reader.origin
  pub begins : IsPrefix before.reader.seen after.reader.seen
  pub looks : length after.reader.founds ≤ length before.reader.founds + most_input

-- what a link tells: the bytes that are left, and those that were written
pub record Shown : Type 0 where
  pub left : Option (List ℕ)
  pub written : Option (List ℕ)

-- A session over a link, in a history of a base. The bytes that were taken begin with lines, and these make up exchanges, each answered
-- in the history. What was written are the answers to the lines, or a front part of them where writing failed. The rest of what was taken
-- and the end are such as is said of lines over a link.
pub record IsSession (base : List Statement) (history : List Entry) (console : ℕ) (before : View) (ended : LinesEnd) (after : View)
    (link_before link_after : Shown) : Type 0 where
  pub lines : List AnsweredLine
  pub rest : List ℕ
  pub exchanges : List Exchange
  pub staged : Option Changes
  pub within : length (bytes_of lines ++ rest) ≤ most_input
  pub taken : TakesOff link_before.left link_after.left (bytes_of lines ++ rest)
  pub ends : EndsBy ended lines rest
  pub writes : WritesBy ended lines link_before.written link_after.written
  pub make_up : MakeUp None lines exchanges
  pub answered : AreAnswered base history console (opened before) exchanges (record { view = after; staged = staged })

-- The same in every history that goes on from what its console has seen at the end.
abbrev pub IsHeard : List Statement → ℕ → View → LinesEnd → View → Shown → Shown → Type 0
IsHeard base console before ended after link_before link_after = (history : List Entry) → IsPrefix after.seen history
    → IsSession base history console before ended after link_before link_after
