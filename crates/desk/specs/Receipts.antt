-- Receipts of entries, of this project: a receipt names an entry by its console, its serial and its place in the log.
use Rattle.std.specs.Prelude.{ℕ, ◌≡◌, ◌+◌, ◌⊎◌, List, [], ◌∷◌, Some, slice_get, ◌==◌}
use Rattle.std.specs.List.{filter}
use Rattle.room_words.specs.declared.event.Entry.{Entry}
use Rattle.room_words.specs.declared.receipt.Receipt.{Receipt}

-- the receipt of an entry that has so many entries before it
abbrev pub receipt_of : ℕ → Entry → Receipt
receipt_of before entry = record { console = entry.console; serial = entry.serial; number = before + 1 }

-- the receipts of entries that come after so many others, in their order
abbrev pub receipts_after : ℕ → List Entry → List Receipt
receipts_after before [] = []
receipts_after before (entry ∷ entries) = receipt_of before entry ∷ receipts_after (before + 1) entries

-- the receipts of a console's entries in a log, in their order
abbrev pub receipts_in : ℕ → List Entry → List Receipt
receipts_in console log = filter (λ (receipt : Receipt). receipt.console == console) (receipts_after 0 log)

-- receipts with the serials 1, 2 and so on
abbrev pub AreNumbered : List Receipt → Type 0
AreNumbered receipts = (index : ℕ) (receipt : Receipt) → slice_get receipts index ≡ Some receipt → receipt.serial ≡ index + 1

-- some items of a list, each at most as often as there, in their order
abbrev pub AreSomeOf : {X : Type 0} → List X → List X → Type 0
AreSomeOf xs [] = xs ≡ []
AreSomeOf {X} xs (y ∷ ys) = AreSomeOf xs ys ⊎ ((rest : List X) × (xs ≡ y ∷ rest) × AreSomeOf rest ys)
