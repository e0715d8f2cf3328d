-- The room as a machine of one thread, of this project: what each step answers and leaves, over every list of steps.
use Rattle.std.specs.Prelude.{ℕ, ◌+◌, ◌-◌, ◌≡◌, ◌<◌, ◌≤◌, List, [], ◌∷◌, ◌++◌, length, slice_index_or, slice_set, Option, Some, None}
use Rattle.desk.specs.Consoles.{next_serial}
use Rattle.desk.specs.Legal.{Judgement}
use Rattle.room_core.specs.declared.event.CoreEvent.{CoreEvent}
use Rattle.room_core.specs.declared.event.CoreEvent.TheVariants as event
use Rattle.room_core.specs.declared.reply.CoreReply.{CoreReply}
use Rattle.room_core.specs.declared.reply.CoreReply.TheVariants as reply
use Rattle.room_words.specs.declared.event.Entry.{Entry}
use Rattle.room_words.specs.declared.event.Event.{Event}
use Rattle.room_words.specs.declared.receipt.Receipt.{Receipt}
use Rattle.room_words.specs.declared.refused.Refused.{Refused}

-- a room: where its history began, the history, and how many entries each console has seen, console 1 first
pub record RoomState (O : Type 0) : Type 0 where
  pub origin : O
  pub log : List Entry
  pub seen : List ℕ

-- how many entries a console has seen, and a room in which it has seen so many
abbrev pub seen_by : {O : Type 0} → RoomState O → ℕ → ℕ
seen_by r console = slice_index_or r.seen (console - 1) 0

abbrev pub with_seen : {O : Type 0} → RoomState O → ℕ → ℕ → RoomState O
with_seen r console number = record r { seen = slice_set r.seen (console - 1) number }

-- the entry that an event of a console becomes
abbrev pub next_entry : List Entry → ℕ → Event → Entry
next_entry log console submitted = record { console = console; serial = next_serial console log; event = submitted }

-- An event is accepted: it comes at the end of the history, its console has seen all of that, and the receipt names it.
pub record IsMade {O : Type 0} (judges : Judgement) (before : RoomState O) (console : ℕ) (submitted : Event) (receipt : Receipt) (after : RoomState O) : Type 0 where
  pub accepted : judges before.log submitted None
  pub receipt_console : receipt.console ≡ console
  pub receipt_serial : receipt.serial ≡ next_serial console before.log
  pub receipt_number : receipt.number ≡ length before.log + 1
  pub leads : after ≡ record (with_seen before console (length before.log + 1)) { log = before.log ++ next_entry before.log console submitted ∷ [] }

-- An event is refused: it is judged on the whole history, which its console has then seen.
pub record IsRefused {O : Type 0} (judges : Judgement) (before : RoomState O) (console : ℕ) (submitted : Event) (refused : Refused) (after : RoomState O) : Type 0 where
  pub judged : judges before.log submitted (Some refused.why)
  pub at_all : refused.at ≡ length before.log
  pub leads : after ≡ with_seen before console (length before.log)

-- how many entries a look wants: so many, or all
abbrev pub wanted : List Entry → Option ℕ → ℕ
wanted log None = length log
wanted log (Some number) = number

-- a console may look at a prefix that is no shorter than what it has seen, and no longer than the history
abbrev pub MayLook : {O : Type 0} → RoomState O → ℕ → ℕ → Type 0
MayLook r console number = (seen_by r console ≤ number) × (number ≤ length r.log)

-- One step, with its reply. A look moves what its console has seen, or is no step at all; an ask changes nothing.
abbrev pub IsStep : {O : Type 0} → Judgement → RoomState O → CoreEvent → CoreReply → RoomState O → Type 0
IsStep judges before (event.Submit console submitted) (reply.Made receipt) after = IsMade judges before console submitted receipt after
IsStep judges before (event.Submit console submitted) (reply.Refused refused) after = IsRefused judges before console submitted refused after
IsStep judges before (event.Look console number) (reply.Looked found) after =
    (found ≡ wanted before.log number) × MayLook before console found × (after ≡ with_seen before console found)
IsStep judges before (event.Look console number) reply.NoPrefix after = (MayLook before console (wanted before.log number) → ⊥) × (after ≡ before)
IsStep judges before (event.Ask console) (reply.Shown seen) after = (seen ≡ seen_by before console) × (after ≡ before)
IsStep judges before other_event other_reply after = ⊥

-- steps with their replies lead from one room to another, one after the other
abbrev pub Runs : {O : Type 0} → Judgement → RoomState O → List CoreEvent → List CoreReply → RoomState O → Type 0
Runs judges before [] [] after = after ≡ before
Runs {O} judges before (event ∷ events) (reply ∷ replies) after =
    (next : RoomState O) × IsStep judges before event reply next × Runs judges next events replies after
Runs judges before events replies after = ⊥
