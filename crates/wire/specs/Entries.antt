-- The texts of entries and of histories, of this project.
use Rattle.std.specs.Prelude.{ℕ, ◌+◌, List, [], ◌∷◌, ◌++◌, length, codes}
use Rattle.std.specs.Fmt.{decimal}
use Rattle.cim_words.specs.Written.{line_feed}
use Rattle.room_words.specs.Differences.{written_difference}
use Rattle.room_words.specs.declared.event.Entry.{Entry}
use Rattle.room_words.specs.declared.event.Event.{Event}
use Rattle.room_words.specs.declared.event.Event.TheVariants as event
use Rattle.wire.specs.Requests.{act_text, request_word}
use Rattle.wire.specs.declared.request_word.RequestWord.TheVariants as word

-- an act as a request, and a change of the model as the word `cutover` with the written form of the difference on the lines after it
abbrev pub event_text : Event → List ℕ
event_text (event.Act a) = act_text a ++ line_feed ∷ []
event_text (event.Cutover d) = request_word word.Cutover ++ line_feed ∷ written_difference d

-- an entry: its number in the history, `c` and its console, its serial, and its event
abbrev pub place_text : ℕ → Entry → List ℕ
place_text number entry = decimal number ++ codes " c" ++ decimal entry.console ++ codes " " ++ decimal entry.serial ++ codes " "

abbrev pub entry_text : ℕ → Entry → List ℕ
entry_text number entry = place_text number entry ++ event_text entry.event

-- entries, of which the first has this number
abbrev pub entries_text : ℕ → List Entry → List ℕ
entries_text number [] = []
entries_text number (entry ∷ entries) = entry_text number entry ++ entries_text (number + 1) entries

-- a history: how many entries it has, and the entries, numbered from 1
unfoldable pub history_text : List Entry → List ℕ
history_text entries = codes "history " ++ decimal (length entries) ++ line_feed ∷ entries_text 1 entries
