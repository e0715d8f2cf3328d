-- Requests, of this project: the table of their words and fields, and which lines are requests.
use Rattle.std.specs.Prelude.{ℕ, ◌≡◌, ◌⊎◌, List, [], ◌∷◌, map, length, Bool, true, Some, None, codes}
use Rattle.room_words.specs.declared.act.Act.{Act}
use Rattle.room_words.specs.declared.act.Act.TheVariants as act
use Rattle.room_words.specs.declared.fault.Fault.{Fault}
use Rattle.room_words.specs.declared.fault.Fault.TheVariants as fault
use Rattle.wire.specs.Values.{AreSpelled, FirstBad, Form, Value, a_length, a_phase_set, a_prefix, an_anchor, an_id, anchored, form_of, long, named, phased, seen, value_text}
use Rattle.wire.specs.Words.{words_of, words_text}
use Rattle.wire.specs.declared.request.Request.{Request}
use Rattle.wire.specs.declared.request.Request.TheVariants as request
use Rattle.wire.specs.declared.request_word.RequestWord.{RequestWord}
use Rattle.wire.specs.declared.request_word.RequestWord.TheVariants as word

-- the first words of requests
abbrev pub request_word : RequestWord → List ℕ
request_word word.Open = codes "open"
request_word word.Close = codes "close"
request_word word.Release = codes "release"
request_word word.Remove = codes "remove"
request_word word.Cut = codes "cut"
request_word word.Clamp = codes "clamp"
request_word word.Jumper = codes "jumper"
request_word word.Ground = codes "ground"
request_word word.Trace = codes "trace"
request_word word.Look = codes "look"
request_word word.Stage = codes "stage"
request_word word.Cutover = codes "cutover"
request_word word.Bye = codes "bye"

-- the forms of the fields after each
abbrev pub fields_after : RequestWord → List Form
fields_after word.Open = an_id ∷ []
fields_after word.Close = an_id ∷ []
fields_after word.Release = an_id ∷ []
fields_after word.Remove = an_id ∷ []
fields_after word.Cut = an_id ∷ an_id ∷ a_length ∷ []
fields_after word.Clamp = an_id ∷ an_id ∷ a_length ∷ []
fields_after word.Jumper = an_id ∷ an_anchor ∷ an_anchor ∷ a_phase_set ∷ []
fields_after word.Ground = an_id ∷ an_anchor ∷ a_phase_set ∷ []
fields_after word.Trace = an_id ∷ a_phase_set ∷ []
fields_after word.Look = []
fields_after word.Stage = []
fields_after word.Cutover = []
fields_after word.Bye = []

-- a word takes the fields of the table, and in a script `look` may also name a prefix
abbrev pub Takes : Bool → RequestWord → List Form → Type 0
Takes scripted w forms = (forms ≡ fields_after w) ⊎ ((scripted ≡ true) × (w ≡ word.Look) × (forms ≡ a_prefix ∷ []))

-- what a request says: its word, and the values of its fields
abbrev pub word_of_act : Act → RequestWord
word_of_act (act.OpenSwitch id) = word.Open
word_of_act (act.CloseSwitch id) = word.Close
word_of_act (act.Release id) = word.Release
word_of_act (act.Remove id) = word.Remove
word_of_act (act.Cut new_id segment length) = word.Cut
word_of_act (act.Clamp new_id segment length) = word.Clamp
word_of_act (act.Jumper new_id first second phases) = word.Jumper
word_of_act (act.Ground new_id at phases) = word.Ground

abbrev pub values_of_act : Act → List Value
values_of_act (act.OpenSwitch id) = named id ∷ []
values_of_act (act.CloseSwitch id) = named id ∷ []
values_of_act (act.Release id) = named id ∷ []
values_of_act (act.Remove id) = named id ∷ []
values_of_act (act.Cut new_id segment length) = named new_id ∷ named segment ∷ long length ∷ []
values_of_act (act.Clamp new_id segment length) = named new_id ∷ named segment ∷ long length ∷ []
values_of_act (act.Jumper new_id first second phases) = named new_id ∷ anchored first ∷ anchored second ∷ phased phases ∷ []
values_of_act (act.Ground new_id at phases) = named new_id ∷ anchored at ∷ phased phases ∷ []

abbrev pub word_of : Request → RequestWord
word_of (request.Act a) = word_of_act a
word_of (request.Look at) = word.Look
word_of (request.Trace start phases) = word.Trace
word_of request.Stage = word.Stage
word_of request.Cutover = word.Cutover
word_of request.Bye = word.Bye

abbrev pub values_of : Request → List Value
values_of (request.Act a) = values_of_act a
values_of (request.Look None) = []
values_of (request.Look (Some count)) = seen count ∷ []
values_of (request.Trace start phases) = named start ∷ phased phases ∷ []
values_of request.Stage = []
values_of request.Cutover = []
values_of request.Bye = []

-- fields say a request after its word where they are those that the word takes, and each spells its value
pub record IsSaid (scripted : Bool) (w : RequestWord) (fields : List (List ℕ)) (r : Request) : Type 0 where
  pub word : word_of r ≡ w
  pub takes : Takes scripted w (map form_of (values_of r))
  pub spelled : AreSpelled (values_of r) fields

-- A line is a request where its words are the request's word and fields that say it.
pub record IsRequest (scripted : Bool) (line : List ℕ) (r : Request) : Type 0 where
  pub fields : List (List ℕ)
  pub words : words_of line ≡ request_word (word_of r) ∷ fields
  pub said : IsSaid scripted (word_of r) fields r

-- the first word is none of the table
pub record IsNoWord (line : List ℕ) : Type 0 where
  pub first : List ℕ
  pub fields : List (List ℕ)
  pub words : words_of line ≡ first ∷ fields
  pub none : (w : RequestWord) → first ≡ request_word w → ⊥

-- fields are too many or too few for a word, or the word with the number `k` after it is the least that is not of its form
abbrev pub IsMiscounted : Bool → RequestWord → List (List ℕ) → Type 0
IsMiscounted scripted w fields = (forms : List Form) → Takes scripted w forms → length forms ≡ length fields → ⊥

abbrev pub IsBadField : Bool → RequestWord → List (List ℕ) → ℕ → Type 0
IsBadField scripted w fields k = (forms : List Form) × Takes scripted w forms × (length forms ≡ length fields) × FirstBad 1 forms fields k

abbrev pub IsFieldFault : Bool → RequestWord → List (List ℕ) → Fault → Type 0
IsFieldFault scripted w fields fault.Count = IsMiscounted scripted w fields
IsFieldFault scripted w fields (fault.Field k) = IsBadField scripted w fields k
IsFieldFault scripted w fields _ = ⊥

pub record HasFieldFault (scripted : Bool) (line : List ℕ) (f : Fault) : Type 0 where
  pub word : RequestWord
  pub fields : List (List ℕ)
  pub words : words_of line ≡ request_word word ∷ fields
  pub fault : IsFieldFault scripted word fields f

-- why a line is no request: its first word is none, or else what is wrong with the words after it
abbrev pub IsRequestFault : Bool → List ℕ → Fault → Type 0
IsRequestFault scripted line fault.Word = IsNoWord line
IsRequestFault scripted line f = HasFieldFault scripted line f

-- the text that is written for an act: its word and the words that are written for its values
abbrev pub act_text : Act → List ℕ
act_text a = words_text (request_word (word_of_act a)) (map value_text (values_of_act a))
