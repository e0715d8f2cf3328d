-- What a look and an entry do to the view of a console, in a history. All of it is of this project.
use Rattle.std.specs.Prelude.{ℕ, ◌≡◌, ◌-◌, ◌<◌, ◌≤◌, ◌⊎◌, List, [], ◌∷◌, ◌++◌, length, take, Some, slice_get}
use Rattle.desk.specs.Consoles.{next_serial}
use Rattle.desk.specs.Receipts.{receipt_of}
use Rattle.room_words.specs.declared.event.Entry.{Entry}
use Rattle.room_words.specs.declared.event.Event.{Event}
use Rattle.session_host.specs.Views.{View}

-- One look was made, and then so many entries of the history are seen: no fewer than the look found, and all that was seen before
-- among them.
pub record SeesFirst (history : List Entry) (before after : View) (count : ℕ) : Type 0 where
  pub found : ℕ
  pub looked : after.founds ≡ before.founds ++ found ∷ []
  pub no_less : found ≤ count
  pub later : length before.seen ≤ count
  pub within : count ≤ length history
  pub began : before.seen ≡ take (length before.seen) history
  pub seen : after.seen ≡ take count history

-- the same, and no receipt was given
abbrev pub OnlySees : List Entry → View → View → ℕ → Type 0
OnlySees history before after count = SeesFirst history before after count × (after.made ≡ before.made)

-- one look may have been made, and no receipt was given
abbrev pub MaySee : List Entry → View → View → Type 0
MaySee history before after = (after ≡ before) ⊎ ((count : ℕ) × OnlySees history before after count)

-- the entry that an event becomes for a console behind entries
abbrev pub entry_behind : List Entry → ℕ → Event → Entry
entry_behind entries console event = record { console = console; serial = next_serial console entries; event = event }

-- An event is the entry of this number in the history, from 1: it comes behind all that was seen before, it is the last that is seen now,
-- and its receipt is the only new one.
pub record Enters (history : List Entry) (console : ℕ) (event : Event) (before after : View) (number : ℕ) : Type 0 where
  pub sees : SeesFirst history before after number
  pub beyond : length before.seen < number
  pub stands : slice_get history (number - 1) ≡ Some (entry_behind (take (number - 1) history) console event)
  pub made : after.made ≡ before.made ++ receipt_of (number - 1) (entry_behind (take (number - 1) history) console event) ∷ []
