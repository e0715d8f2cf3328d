-- Legal histories, of this project: each entry is accepted after those before it.
use Rattle.std.specs.Prelude.{◌≡◌, List, ◌∷◌, ◌++◌, Option, None}
use Rattle.desk.specs.Consoles.{IsConsole, next_serial}
use Rattle.room_words.specs.declared.event.Entry.{Entry}
use Rattle.room_words.specs.declared.event.Event.{Event}
use Rattle.room_words.specs.declared.refused.Why.{Why}

-- a judgement says how an event is answered after a list of entries: it is accepted, or refused and why
abbrev pub Judgement : Type 1
Judgement = List Entry → Event → Option Why → Type 0

-- An entry may come next: a console has it, its serial is the next one of that console, and its event is accepted after the entries.
pub record IsNext (judges : Judgement) (entries : List Entry) (entry : Entry) : Type 0 where
  pub console : IsConsole entry.console
  pub serial : entry.serial ≡ next_serial entry.console entries
  pub accepted : judges entries entry.event None

-- a history is legal where each entry may come after those before it
abbrev pub IsLegal : Judgement → List Entry → Type 0
IsLegal judges log = (before : List Entry) (entry : Entry) (after : List Entry) → log ≡ before ++ entry ∷ after → IsNext judges before entry
