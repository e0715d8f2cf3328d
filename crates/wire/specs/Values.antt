-- The fields of requests, of this project: their forms, the values that they name, and the words that spell these.
use Rattle.std.specs.Prelude.{ℕ, ◌+◌, ◌^◌, ◌≡◌, ◌<◌, ◌≤◌, ◌⊎◌, List, [], ◌∷◌, ◌++◌, Some, codes}
use Rattle.std.specs.Fmt.{decimal}
use Rattle.cim_words.specs.IdText.{id_text, plain_number}
use Rattle.cim_words.specs.Phases.{phase_text}
use Rattle.cim_words.specs.declared.identifier.Id.{Id}
use Rattle.cim_words.specs.declared.length.Length.{Length}
use Rattle.cim_words.specs.declared.phases.PhaseSet.{PhaseSet}
use Rattle.room_words.specs.declared.anchor.Anchor.{Anchor}
use Rattle.room_words.specs.declared.anchor.Anchor.TheVariants as anchor

-- the forms of fields: an identifier, millimetres, a place to anchor at, a set of phases, and how many entries a prefix has
pub data Form : Type 0 where
  an_id : Form
  a_length : Form
  an_anchor : Form
  a_phase_set : Form
  a_prefix : Form

-- the values of fields, and the form of each
pub data Value : Type 0 where
  named : Id → Value
  long : Length → Value
  anchored : Anchor → Value
  phased : PhaseSet → Value
  seen : ℕ → Value

abbrev pub form_of : Value → Form
form_of (named id) = an_id
form_of (long length) = a_length
form_of (anchored place) = an_anchor
form_of (phased set) = a_phase_set
form_of (seen count) = a_prefix

-- the most millimetres that have 13 digits, and the most entries that a prefix has
abbrev pub most_millimetres : ℕ
most_millimetres = 9999999999999

abbrev pub most_entries : ℕ
most_entries = 1048576

-- A word spells an identifier where it is its plain text, in either case; a number where it is its decimal text, without leading zeros; a
-- node where it is `n:` and an identifier; a side where it is `s:`, an identifier, and `:1` or `:2`; and phases where it is their text.
abbrev pub SpellsId : Id → List ℕ → Type 0
SpellsId id word = plain_number word ≡ Some id.number

abbrev pub SpellsNumber : ℕ → ℕ → List ℕ → Type 0
SpellsNumber most number word = (word ≡ decimal number) × (number ≤ most)

abbrev pub SpellsAnchor : Anchor → List ℕ → Type 0
SpellsAnchor (anchor.Node id) word = (text : List ℕ) × (word ≡ codes "n:" ++ text) × SpellsId id text
SpellsAnchor (anchor.Side id side) word =
    (text : List ℕ) × SpellsId id text
    × (((side ≡ 1) × (word ≡ codes "s:" ++ text ++ codes ":1")) ⊎ ((side ≡ 2) × (word ≡ codes "s:" ++ text ++ codes ":2")))

abbrev pub Spells : Value → List ℕ → Type 0
Spells (named id) word = SpellsId id word
Spells (long length) word = SpellsNumber most_millimetres length.mm word
Spells (anchored place) word = SpellsAnchor place word
Spells (phased set) word = word ≡ phase_text set
Spells (seen count) word = SpellsNumber most_entries count word

-- a word is of a form where it spells a value of that form
abbrev pub IsOf : Form → List ℕ → Type 0
IsOf form word = (value : Value) × (form_of value ≡ form) × Spells value word

-- words spell values, each one its own
abbrev pub AreSpelled : List Value → List (List ℕ) → Type 0
AreSpelled [] [] = Unit {0}
AreSpelled (value ∷ values) (word ∷ words) = Spells value word × AreSpelled values words
AreSpelled _ _ = ⊥

-- Of words that should have these forms, the first of them having the number `from`, the word with the number `k` is not of its form, and
-- all before it are.
abbrev pub FirstBad : ℕ → List Form → List (List ℕ) → ℕ → Type 0
FirstBad from (form ∷ forms) (word ∷ words) k = ((k ≡ from) × (IsOf form word → ⊥)) ⊎ (IsOf form word × FirstBad (from + 1) forms words k)
FirstBad _ _ _ _ = ⊥

-- the word that is written for a value
abbrev pub anchor_text : Anchor → List ℕ
anchor_text (anchor.Node id) = codes "n:" ++ id_text id.number
anchor_text (anchor.Side id side) = codes "s:" ++ id_text id.number ++ codes ":" ++ decimal side

abbrev pub value_text : Value → List ℕ
value_text (named id) = id_text id.number
value_text (long length) = decimal length.mm
value_text (anchored place) = anchor_text place
value_text (phased set) = phase_text set
value_text (seen count) = decimal count

-- A value for which a word is written that spells it: an identifier has 128 bits, a length has 13 digits at most, and a side is 1 or 2.
abbrev pub IsWritten : Value → Type 0
IsWritten (named id) = id.number < 2 ^ 128
IsWritten (long length) = length.mm ≤ most_millimetres
IsWritten (anchored (anchor.Node id)) = id.number < 2 ^ 128
IsWritten (anchored (anchor.Side id side)) = (id.number < 2 ^ 128) × ((side ≡ 1) ⊎ (side ≡ 2))
IsWritten (phased set) = Unit {0}
IsWritten (seen count) = count ≤ most_entries

abbrev pub AreWritten : List Value → Type 0
AreWritten [] = Unit {0}
AreWritten (value ∷ values) = IsWritten value × AreWritten values
