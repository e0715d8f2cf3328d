-- What contracts see of a room's seed, of its desk, of its posts and of a version that is prepared.
use Rattle.std.specs.Prelude.{ℕ, ◌≡◌, ◌+◌, List, length, Some, slice_get}
use Rattle.atomic_table.specs.Seated.{TableId}
use Rattle.board.specs.Ends.{ReaderState}
use Rattle.room_words.specs.declared.event.Entry.{Entry}
use Rattle.room_words.specs.declared.receipt.Receipt.{Receipt}

-- a seed: the first version, how many consoles there will be, and which board and which ledger are theirs
pub record SeedState (V : Type 0) : Type 0 where
  pub first : V
  pub consoles : ℕ
  pub board : TableId
  pub ledger : ℕ

-- a desk: its current version, and how often it published
pub record DeskState (V : Type 0) : Type 0 where
  pub current : V
  pub told : ℕ

-- a post: its reader, the list of its receipts, and for how many more there is room
pub record PostState (V O : Type 0) : Type 0 where
  pub reader : ReaderState V Entry O
  pub receipts : List Receipt
  pub room : ℕ

-- the number of a post's console, from 1: a board counts its consoles from 0
abbrev pub number_of : {V O : Type 0} → PostState V O → ℕ
number_of post = post.reader.console + 1

-- a prepared version: the entry that it would add, the version, and for how many consoles it has copies
pub record PreparedState (V : Type 0) : Type 0 where
  pub entry : Entry
  pub version : V
  pub consoles : ℕ

-- all posts of a room of so many, console 1 first
pub record AreAllPosts {V O : Type 0} (consoles : ℕ) (posts : List (PostState V O)) : Type 0 where
  pub count : length posts ≡ consoles
  pub order : (index : ℕ) (post : PostState V O) → slice_get posts index ≡ Some post → post.reader.console ≡ index
