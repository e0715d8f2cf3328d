-- What the parts of a room say of one another while they are apart.
use Rattle.std.specs.Prelude.{ℕ, ◌≡◌, ◌+◌, ◌^◌, ◌<◌, ◌≤◌, List, [], length, Some, IfSome, All, map, slice_get}
use Rattle.atomic_table.specs.Seated.{TableId}
use Rattle.board.specs.Ends.{ReaderState, WriterState, newly_seated}
use Rattle.desk.specs.Consoles.{IsConsole}
use Rattle.desk.specs.Ends.{PostState}
use Rattle.desk.specs.Legal.{Judgement, IsLegal}
use Rattle.desk.specs.Receipts.{AreSomeOf, receipts_in}
use Rattle.room_words.specs.declared.event.Entry.{Entry}
use Rattle.room_words.specs.declared.receipt.Receipt.{Receipt}

-- A seed holds the ends of a board without entries, on which nothing was published and nobody has looked, and a ledger with one part for each console.
pub record HeldBySeed {V O : Type 0} (origin : V → O) (log : V → List Entry) (writer : WriterState V O) (readers : List (ReaderState V Entry O)) (consoles parts : ℕ) : Type 0 where
  pub some : 0 < consoles
  pub few : consoles ≤ 16
  pub one_part_each : parts ≡ consoles
  pub writer_is : writer ≡ record { board = writer.board; consoles = consoles; origin = Some (origin writer.last); last = writer.last; told = 0 }
  pub empty : log writer.last ≡ []
  pub count : length readers ≡ consoles
  pub each : (console : ℕ) → console < consoles → slice_get readers console ≡ Some (newly_seated writer.board console [] (origin writer.last) writer.last)

-- A desk holds a writer of the room's board. The log of what that published last is legal, the book counts its entries, and no more versions were published than it has entries.
pub record HeldByDesk {V O : Type 0} (judges : O → Judgement) (origin : V → O) (log : V → List Entry) (board : TableId) (posts : ℕ) (writer : WriterState V O) (book : ℕ) : Type 0 where
  pub board_is : writer.board ≡ board
  pub consoles_are : writer.consoles ≡ posts
  pub some : 0 < posts
  pub few : posts ≤ 16
  pub began : writer.origin ≡ Some (origin writer.last)
  pub legal : IsLegal (judges (origin writer.last)) (log writer.last)
  pub counted : book ≡ length (log writer.last)
  pub told_few : writer.told ≤ length (log writer.last)

-- A post holds a reader of the room's board, one part of the ledger for its console, and as many receipts as its share counts. They name entries of its console that it has seen.
pub record HeldByPost {V O : Type 0} (board : TableId) (reader : ReaderState V Entry O) (receipts : List Receipt) (console parts amount : ℕ) : Type 0 where
  pub board_is : reader.board ≡ board
  pub console_is : console ≡ reader.console + 1
  pub in_range : IsConsole console
  pub one_part : parts ≡ 1
  pub counted : amount ≡ length receipts
  pub few : length receipts < 2 ^ 32
  pub named : AreSomeOf receipts (receipts_in console reader.seen)

-- readers that stand in the order of their consoles
abbrev pub AreSeated : {V O : Type 0} → List (ReaderState V Entry O) → Type 0
AreSeated readers = (index : ℕ) → index < length readers → IfSome (slice_get readers index) (λ reader. reader.console ≡ index)

-- posts of these readers, in their order, without receipts
abbrev pub AreFresh : {V O : Type 0} → List (ReaderState V Entry O) → List (PostState V O) → Type 0
AreFresh readers posts = (map (λ post. post.reader) posts ≡ readers) × All (λ post. post.receipts ≡ []) posts
