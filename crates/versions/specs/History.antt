-- What a history makes of a base, and how an event is judged after it, of this project.
use Rattle.std.specs.Prelude.{ℕ, ◌+◌, ◌≡◌, ◌<◌, ◌≤◌, ◌⊎◌, List, [], ◌∷◌, length, sum_by, Option, Some, None}
use Rattle.cim_model.specs.Effects.{effect}
use Rattle.cim_model.specs.Refusals.{refusal_of}
use Rattle.cim_words.specs.declared.statement.Statement.{Statement}
use Rattle.cutover.specs.Judgement as difference
use Rattle.room_words.specs.Differences.{written_difference}
use Rattle.room_words.specs.Overlay.{no_overlay}
use Rattle.room_words.specs.declared.event.Entry.{Entry}
use Rattle.room_words.specs.declared.event.Event.{Event}
use Rattle.room_words.specs.declared.event.Event.TheVariants as event
use Rattle.room_words.specs.declared.overlay.Overlay.{Overlay}
use Rattle.room_words.specs.declared.refused.Why.{Why}
use Rattle.room_words.specs.declared.refused.Why.TheVariants as why

-- a network: the permanent model, and what stands on it for a time
pub record Network : Type 0 where
  pub model : List Statement
  pub overlay : Overlay

-- the network before the first entry
abbrev pub untouched : List Statement → Network
untouched base = record { model = base; overlay = no_overlay }

-- An event takes effect: an act that is not refused changes what stands on the model and no statement, and a difference that is accepted
-- changes the model and nothing that stands on it.
abbrev pub Takes : Network → Event → Network → Type 0
Takes before (event.Act act) after =
    (refusal_of before.model before.overlay act ≡ None) × (after ≡ record { model = before.model; overlay = effect before.overlay act })
Takes before (event.Cutover d) after =
    difference.IsAccepted before.model before.overlay d after.model × (after.overlay ≡ before.overlay)

-- an event is refused on a network
abbrev pub Refuses : Network → Event → Why → Type 0
Refuses network (event.Act act) (why.Act refusal) = refusal_of network.model network.overlay act ≡ Some refusal
Refuses network (event.Cutover d) (why.Diff refusal) = difference.IsRefused network.model network.overlay d refusal
Refuses network other_event other_why = ⊥

-- the entries take effect one after the other
abbrev pub Replays : Network → List Entry → Network → Type 0
Replays before [] after = after ≡ before
Replays before (entry ∷ entries) after = (next : Network) × Takes before entry.event next × Replays next entries after

-- the network that a history makes of a base
abbrev pub IsNow : List Statement → List Entry → Network → Type 0
IsNow base log now = Replays (untouched base) log now

-- the bytes that an event counts for: an act for none, a difference for those of its written form
abbrev pub event_bytes : Event → ℕ
event_bytes (event.Act act) = 0
event_bytes (event.Cutover d) = length (written_difference d)

-- How many records of the graph an event changes at most: an act changes six. A cutover makes the graph anew, and for it no number is
-- stated.
abbrev pub event_ticks : Event → Option ℕ
event_ticks (event.Act act) = Some 6
event_ticks (event.Cutover d) = None

abbrev pub entry_bytes : Entry → ℕ
entry_bytes entry = event_bytes entry.event

abbrev pub log_bytes : List Entry → ℕ
log_bytes = sum_by entry_bytes

-- how many entries a history has at most, and how many bytes its differences have together
abbrev pub most_entries : ℕ
most_entries = 1048576

abbrev pub most_log_bytes : ℕ
most_log_bytes = 536870912

-- a history of so many entries and bytes has no room for an event
abbrev pub HasNoRoom : ℕ → ℕ → Event → Type 0
HasNoRoom entries bytes one = (most_entries ≤ entries) ⊎ (most_log_bytes < bytes + event_bytes one)

abbrev pub IsFull : List Entry → Event → Type 0
IsFull log one = HasNoRoom (length log) (log_bytes log) one

-- how an event is judged on the network now
abbrev pub JudgesNow : Network → Event → Option Why → Type 0
JudgesNow now one None = (next : Network) × Takes now one next
JudgesNow now one (Some reason) = Refuses now one reason

-- How an event is judged after a history of a base: a full history refuses it before anything else, and else it is judged on the network
-- that the history makes of the base.
abbrev pub Judges : List Statement → List Entry → Event → Option Why → Type 0
Judges base log one (Some (why.Log full)) = IsFull log one × (full ≡ record { entries = length log; bytes = log_bytes log })
Judges base log one answer = (IsFull log one → ⊥) × ((now : Network) × IsNow base log now × JudgesNow now one answer)
