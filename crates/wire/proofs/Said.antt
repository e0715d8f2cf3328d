-- What is said by the table is said, and what is wrong by the table is wrong.
use Rattle.std.proofs.Common.{◌≡◌, ℕ, List, [], ◌∷◌, length, Bool, true, inl, inr, refl, sym, ap, ◌∙◌}
use Rattle.room_words.specs.declared.fault.Fault.{Fault}
use Rattle.room_words.specs.declared.fault.Fault.TheVariants as fault
use Rattle.wire.specs.Reading.{FaultIn, IsSaidBy}
use Rattle.wire.specs.Requests.{IsFieldFault, IsSaid, fields_after}
use Rattle.wire.specs.Values.{a_prefix}
use Rattle.wire.specs.declared.request.Request.{Request}
use Rattle.wire.specs.declared.request_word.RequestWord.{RequestWord}
use Rattle.wire.specs.declared.request_word.RequestWord.TheVariants.{Look}

-- a request that is said by the table is said, in a session and in a script
pub said_always : (scripted : Bool) (w : RequestWord) (words : List (List ℕ)) (r : Request) → IsSaidBy w words r → IsSaid scripted w words r
said_always scripted w words r said = record { word = said.word; takes = inl said.forms; spelled = said.spelled }

-- what is wrong by the table is wrong where the table alone counts
pub fault_always : (scripted : Bool) (w : RequestWord) (words : List (List ℕ)) (f : Fault) → ((scripted ≡ true) × (w ≡ Look) → ⊥)
    → FaultIn (fields_after w) words f → IsFieldFault scripted w words f
fault_always scripted w words fault.Count alone wrong = λ forms takes same. elim takes [
  | inl table ↦ wrong (sym (ap length table) ∙ same)
  | inr (script, look, _) ↦ alone (script, look)
]
fault_always scripted w words (fault.Field k) alone wrong = (fields_after w, inl refl, wrong.0, wrong.1)
fault_always scripted w words fault.Word alone wrong = wrong
fault_always scripted w words fault.Staged alone wrong = wrong
fault_always scripted w words fault.Prefix alone wrong = wrong
fault_always scripted w words fault.Console alone wrong = wrong
fault_always scripted w words fault.Long alone wrong = wrong
fault_always scripted w words (fault.Stage bad) alone wrong = wrong

-- what is wrong with the prefix of a look is wrong in a script, where some word follows
pub look_fault : (scripted : Bool) (words : List (List ℕ)) (f : Fault) → scripted ≡ true → (0 ≡ length words → ⊥)
    → FaultIn (a_prefix ∷ []) words f → IsFieldFault scripted Look words f
look_fault scripted words fault.Count script some wrong = λ forms takes same. elim takes [
  | inl table ↦ some (sym (ap length table) ∙ same)
  | inr (_, _, prefix) ↦ wrong (sym (ap length prefix) ∙ same)
]
look_fault scripted words (fault.Field k) script some wrong = (a_prefix ∷ [], inr (script, refl, refl), wrong.0, wrong.1)
look_fault scripted words fault.Word script some wrong = wrong
look_fault scripted words fault.Staged script some wrong = wrong
look_fault scripted words fault.Prefix script some wrong = wrong
look_fault scripted words fault.Console script some wrong = wrong
look_fault scripted words fault.Long script some wrong = wrong
look_fault scripted words (fault.Stage bad) script some wrong = wrong
