-- What a session knows of its console, of this project.
use Rattle.std.specs.Prelude.{ℕ, List, Option, None}
use Rattle.desk.specs.Ends.{PostState}
use Rattle.room_words.specs.Differences.{Changes}
use Rattle.room_words.specs.declared.event.Entry.{Entry}
use Rattle.room_words.specs.declared.receipt.Receipt.{Receipt}

-- the entries that a console has seen, its receipts, and the number that each of its looks found newest
pub record View : Type 0 where
  pub seen : List Entry
  pub made : List Receipt
  pub founds : List ℕ

abbrev pub view_of : {V O : Type 0} → PostState V O → View
view_of post = record { seen = post.reader.seen; made = post.receipts; founds = post.reader.founds }

-- a session: its console's view, and the difference that it has staged
pub record SessionState : Type 0 where
  pub view : View
  pub staged : Option Changes

-- before its first request nothing is staged
abbrev pub opened : View → SessionState
opened view = record { view = view; staged = None }
