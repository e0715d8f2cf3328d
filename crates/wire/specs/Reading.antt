-- What the functions that read a request say of the words after the first.
use Rattle.std.specs.Prelude.{ℕ, ◌≡◌, List, [], ◌∷◌, map, length, Bool, ◌==◌, ◌&&◌, ◌||◌, nat_lt, slice_index}
use Rattle.room_words.specs.declared.fault.Fault.{Fault}
use Rattle.room_words.specs.declared.fault.Fault.TheVariants as fault
use Rattle.wire.specs.Requests.{fields_after, values_of, word_of}
use Rattle.wire.specs.Values.{AreSpelled, FirstBad, Form, form_of}
use Rattle.wire.specs.Words.{words_of}
use Rattle.wire.specs.declared.request.Request.{Request}
use Rattle.wire.specs.declared.request_word.RequestWord.{RequestWord}

-- the words in what follows a word: nothing, or a space and these words
abbrev pub fields_of : List ℕ → List (List ℕ)
fields_of [] = []
fields_of (_ ∷ words) = words_of words

-- what is wrong with words that should have these forms: their number, or one of them
abbrev pub FaultIn : List Form → List (List ℕ) → Fault → Type 0
FaultIn forms words fault.Count = length forms ≡ length words → ⊥
FaultIn forms words (fault.Field k) = (length forms ≡ length words) × FirstBad 1 forms words k
FaultIn forms words _ = ⊥

-- a request with this word, whose values have the forms of the table, and are spelled by these words
pub record IsSaidBy (w : RequestWord) (words : List (List ℕ)) (r : Request) : Type 0 where
  pub word : word_of r ≡ w
  pub forms : map form_of (values_of r) ≡ fields_after w
  pub spelled : AreSpelled (values_of r) words

-- whether a word begins with a plus, or with a zero that is not all of it
abbrev pub is_padded : List ℕ → Bool
is_padded word = slice_index word 0 == 0x2B || (slice_index word 0 == 0x30 && nat_lt 1 (length word))
