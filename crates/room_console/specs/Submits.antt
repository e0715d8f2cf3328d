-- What a submit does for its console, which contracts see as its post.
use Rattle.std.specs.Prelude.{ℕ, ◌≡◌, ◌≤◌, List, [], ◌∷◌, ◌++◌, length, Contains, Some}
use Rattle.board.specs.Lists.{IsPrefix}
use Rattle.desk.specs.Ends.{PostState, number_of}
use Rattle.desk.specs.Legal.{Judgement, IsLegal, IsNext}
use Rattle.desk.specs.Receipts.{receipt_of}
use Rattle.room_words.specs.declared.event.Entry.{Entry}
use Rattle.room_words.specs.declared.event.Event.{Event}
use Rattle.room_words.specs.declared.receipt.Receipt.{Receipt}
use Rattle.room_words.specs.declared.refused.Refused.{Refused}

module _ {V O : Type 0} where
  -- One look was made: it found a number newest, at least what had been seen before, and no more than what is seen now. All that was seen before begins that.
  pub record LooksOnce (before after : PostState V O) : Type 0 where
    pub number : ℕ
    pub found : after.reader.founds ≡ before.reader.founds ++ number ∷ []
    pub no_less : length before.reader.seen ≤ number
    pub no_more : number ≤ length after.reader.seen
    pub begins : IsPrefix before.reader.seen after.reader.seen
    pub board : after.reader.board ≡ before.reader.board
    pub console : after.reader.console ≡ before.reader.console
    pub origin : after.reader.origin ≡ before.reader.origin

  -- The entry that an event becomes for a console
  abbrev pub entry_of : PostState V O → Event → Receipt → Entry
  entry_of console event receipt = record { console = number_of console; serial = receipt.serial; event = event }

  -- An event is entered: what the console had seen begins a legal log, where the event is accepted as the console's next entry and had not stood. What is seen now is this log with the entry at its end, and the receipt, which names it, is the only new one.
  pub record IsEntered (judges : O → Judgement) (before after : PostState V O) (event : Event) (receipt : Receipt) : Type 0 where
    pub origin : O
    pub began : before.reader.origin ≡ Some origin
    pub log : List Entry
    pub legal : IsLegal (judges origin) log
    pub begins : IsPrefix before.reader.seen log
    pub next : IsNext (judges origin) log (entry_of before event receipt)
    pub once : Contains log (entry_of before event receipt) → ⊥
    pub seen : after.reader.seen ≡ log ++ entry_of before event receipt ∷ []
    pub named : receipt ≡ receipt_of (length log) (entry_of before event receipt)
    pub made : after.receipts ≡ before.receipts ++ receipt ∷ []

  -- An event is refused: what the console had seen begins what is seen now, a legal log of as many entries as the refusal says, where the event is judged so. There is no new receipt.
  pub record IsRefused (judges : O → Judgement) (before after : PostState V O) (event : Event) (refused : Refused) : Type 0 where
    pub origin : O
    pub began : before.reader.origin ≡ Some origin
    pub legal : IsLegal (judges origin) after.reader.seen
    pub begins : IsPrefix before.reader.seen after.reader.seen
    pub at : refused.at ≡ length after.reader.seen
    pub judged : judges origin after.reader.seen event (Some refused.why)
    pub made : after.receipts ≡ before.receipts
