-- A line has one reading as a request.
use Rattle.std.proofs.Common.{◌≡◌, ◌⊎◌, ℕ, List, [], ◌∷◌, map, length, Bool, Option, Some, None, find, inl, inr, refl, sym, ap, ap₂, ◌∙◌, subst}
use Rattle.std.specs.Str.{bytes_eq}
use Rattle.std.proofs.lemmas.Option.{same_Some}
use Rattle.room_words.specs.declared.act.Act.TheVariants as act
use Rattle.room_words.specs.declared.fault.Fault.{Fault}
use Rattle.room_words.specs.declared.fault.Fault.TheVariants as fault
use Rattle.wire.specs.Requests.{HasFieldFault, IsBadField, IsFieldFault, IsMiscounted, IsNoWord, IsRequest, IsRequestFault, Takes, fields_after, request_word, values_of, word_of}
use Rattle.wire.specs.Values.{AreSpelled, FirstBad, Form, Value, anchored, form_of, long, named, phased, seen}
use Rattle.wire.specs.Words.{words_of}
use Rattle.wire.specs.declared.request.Request.{Request}
use Rattle.wire.specs.declared.request.Request.TheVariants as request
use Rattle.wire.specs.declared.request_word.RequestWord.{RequestWord}
use Rattle.wire.specs.declared.request_word.RequestWord.TheVariants.{Open, Close, Release, Remove, Cut, Clamp, Jumper, Ground, Trace, Look, Stage, Cutover, Bye}
use Rattle.wire.proofs.OneValue.{none_bad, one_bad, spelled_all, spelled_length}
use Rattle.wire.proofs.Tables.{all_words}

-- ---- words

abbrev read_word : List ℕ → Option RequestWord
read_word text = find (λ w. bytes_eq (request_word w) text) all_words

named_itself : (w : RequestWord) → read_word (request_word w) ≡ Some w
named_itself Open = refl
named_itself Close = refl
named_itself Release = refl
named_itself Remove = refl
named_itself Cut = refl
named_itself Clamp = refl
named_itself Jumper = refl
named_itself Ground = refl
named_itself Trace = refl
named_itself Look = refl
named_itself Stage = refl
named_itself Cutover = refl
named_itself Bye = refl

one_word : (w v : RequestWord) → request_word w ≡ request_word v → w ≡ v
one_word w v same = same_Some w v (sym (named_itself w) ∙ ap read_word same ∙ named_itself v)

-- ---- requests

-- the request with a word and these values
abbrev made : RequestWord → List Value → Option Request
made Open (named id ∷ []) = Some (request.Act (act.OpenSwitch id))
made Close (named id ∷ []) = Some (request.Act (act.CloseSwitch id))
made Release (named id ∷ []) = Some (request.Act (act.Release id))
made Remove (named id ∷ []) = Some (request.Act (act.Remove id))
made Cut (named new_id ∷ named segment ∷ long far ∷ []) = Some (request.Act (act.Cut new_id segment far))
made Clamp (named new_id ∷ named segment ∷ long far ∷ []) = Some (request.Act (act.Clamp new_id segment far))
made Jumper (named new_id ∷ anchored first ∷ anchored second ∷ phased set ∷ []) = Some (request.Act (act.Jumper new_id first second set))
made Ground (named new_id ∷ anchored at ∷ phased set ∷ []) = Some (request.Act (act.Ground new_id at set))
made Trace (named start ∷ phased set ∷ []) = Some (request.Trace start set)
made Look [] = Some (request.Look None)
made Look (seen count ∷ []) = Some (request.Look (Some count))
made Stage [] = Some request.Stage
made Cutover [] = Some request.Cutover
made Bye [] = Some request.Bye
made _ _ = None

made_again : (r : Request) → made (word_of r) (values_of r) ≡ Some r
made_again (request.Act (act.OpenSwitch id)) = refl
made_again (request.Act (act.CloseSwitch id)) = refl
made_again (request.Act (act.Release id)) = refl
made_again (request.Act (act.Remove id)) = refl
made_again (request.Act (act.Cut new_id segment far)) = refl
made_again (request.Act (act.Clamp new_id segment far)) = refl
made_again (request.Act (act.Jumper new_id first second set)) = refl
made_again (request.Act (act.Ground new_id at set)) = refl
made_again (request.Look None) = refl
made_again (request.Look (Some count)) = refl
made_again (request.Trace start set) = refl
made_again request.Stage = refl
made_again request.Cutover = refl
made_again request.Bye = refl

one_made : (a b : Request) → word_of a ≡ word_of b → values_of a ≡ values_of b → a ≡ b
one_made a b words values = same_Some a b (sym (made_again a) ∙ ap₂ made words values ∙ made_again b)

-- a word takes one list of forms of a length
one_taken : (scripted : Bool) (w : RequestWord) (forms others : List Form) → Takes scripted w forms → Takes scripted w others → length forms ≡ length others → forms ≡ others
one_taken scripted w forms others (inl p) (inl q) same = p ∙ sym q
one_taken scripted w forms others (inr p) (inr q) same = p.2 ∙ sym q.2
one_taken scripted w forms others (inl p) (inr q) same = absurd (let lengths = sym (ap length (p ∙ ap fields_after q.1)) ∙ same ∙ ap length q.2 in cc)
one_taken scripted w forms others (inr p) (inl q) same = absurd (let lengths = sym (ap length (q ∙ ap fields_after p.1)) ∙ sym same ∙ ap length p.2 in cc)

-- a line has one word and one list of fields
same_words : (line : List ℕ) (w v : RequestWord) (fields others : List (List ℕ)) → words_of line ≡ request_word w ∷ fields → words_of line ≡ request_word v ∷ others
    → (w ≡ v) × (fields ≡ others)
same_words line w v fields others is also =
    let both : request_word w ∷ fields ≡ request_word v ∷ others = sym is ∙ also in
    let texts : request_word w ≡ request_word v = cc in
    (one_word w v texts, cc)

pub one_request : (scripted : Bool) (line : List ℕ) (a b : Request) → IsRequest scripted line a → IsRequest scripted line b → a ≡ b
one_request scripted line a b p q =
    let (words, fields) = same_words line (word_of a) (word_of b) p.fields q.fields p.words q.words in
    let spelled : AreSpelled (values_of b) p.fields = subst (AreSpelled (values_of b)) (sym fields) q.said.spelled in
    let takes : Takes scripted (word_of a) (map form_of (values_of b)) = subst (λ (w : RequestWord). Takes scripted w (map form_of (values_of b))) (sym words) q.said.takes in
    let lengths = spelled_length (values_of a) p.fields p.said.spelled ∙ sym (spelled_length (values_of b) p.fields spelled) in
    let forms = one_taken scripted (word_of a) _ _ p.said.takes takes lengths in
    one_made a b words (spelled_all (values_of a) (values_of b) p.fields forms p.said.spelled spelled)

-- ---- faults

-- what a fault is of: the first word, the number of words, or a word with its number
first_or_field : (scripted : Bool) (line : List ℕ) (f : Fault) → IsRequestFault scripted line f → ((f ≡ fault.Word) × IsNoWord line) ⊎ HasFieldFault scripted line f
first_or_field scripted line fault.Word wrong = inl (refl, wrong)
first_or_field scripted line fault.Count wrong = inr wrong
first_or_field scripted line (fault.Field k) wrong = inr wrong
first_or_field scripted line fault.Staged wrong = inr wrong
first_or_field scripted line fault.Prefix wrong = inr wrong
first_or_field scripted line fault.Console wrong = inr wrong
first_or_field scripted line fault.Long wrong = inr wrong
first_or_field scripted line (fault.Stage bad) wrong = inr wrong

count_or_field : (scripted : Bool) (w : RequestWord) (fields : List (List ℕ)) (f : Fault) → IsFieldFault scripted w fields f
    → ((f ≡ fault.Count) × IsMiscounted scripted w fields) ⊎ ((k : ℕ) × (f ≡ fault.Field k) × IsBadField scripted w fields k)
count_or_field scripted w fields fault.Word wrong = absurd wrong
count_or_field scripted w fields fault.Count wrong = inl (refl, wrong)
count_or_field scripted w fields (fault.Field k) wrong = inr (k, refl, wrong)
count_or_field scripted w fields fault.Staged wrong = absurd wrong
count_or_field scripted w fields fault.Prefix wrong = absurd wrong
count_or_field scripted w fields fault.Console wrong = absurd wrong
count_or_field scripted w fields fault.Long wrong = absurd wrong
count_or_field scripted w fields (fault.Stage bad) wrong = absurd wrong

one_field_fault : (scripted : Bool) (w : RequestWord) (fields : List (List ℕ)) (f g : Fault) → IsFieldFault scripted w fields f → IsFieldFault scripted w fields g → f ≡ g
one_field_fault scripted w fields f g p q = elim (count_or_field scripted w fields f p) [
  | inl (is, miscounted) ↦ elim (count_or_field scripted w fields g q) [
    | inl (also, _) ↦ is ∙ sym also
    | inr (k, also, (forms, takes, counted, bad)) ↦ absurd (miscounted forms takes counted)
  ]
  | inr (j, is, (forms, takes, counted, bad)) ↦ elim (count_or_field scripted w fields g q) [
    | inl (also, miscounted) ↦ absurd (miscounted forms takes counted)
    | inr (k, also, (others, too, measured, worse)) ↦
        (let same = one_taken scripted w forms others takes too (counted ∙ sym measured) in
        let places = one_bad 1 others fields j k (subst (λ (fs : List Form). FirstBad 1 fs fields j) same bad) worse in
        is ∙ ap fault.Field places ∙ sym also)
  ]
]

known_word : (line : List ℕ) (w : RequestWord) (fields : List (List ℕ)) → IsNoWord line → words_of line ≡ request_word w ∷ fields → ⊥
known_word line w fields none is =
    let both : none.first ∷ none.fields ≡ request_word w ∷ fields = sym none.words ∙ is in
    let same : none.first ≡ request_word w = cc in
    none.none w same

pub one_fault : (scripted : Bool) (line : List ℕ) (f g : Fault) → IsRequestFault scripted line f → IsRequestFault scripted line g → f ≡ g
one_fault scripted line f g p q = elim (first_or_field scripted line f p) [
  | inl (is, none) ↦ elim (first_or_field scripted line g q) [
    | inl (also, _) ↦ is ∙ sym also
    | inr some ↦ absurd (known_word line some.word some.fields none some.words)
  ]
  | inr some ↦ elim (first_or_field scripted line g q) [
    | inl (also, none) ↦ absurd (known_word line some.word some.fields none some.words)
    | inr other ↦
        (let both = same_words line other.word some.word other.fields some.fields other.words some.words in
        let moved : IsFieldFault scripted some.word some.fields g = subst (λ (w : RequestWord). IsFieldFault scripted w some.fields g) both.0 (subst (λ (fs : List (List ℕ)). IsFieldFault scripted other.word fs g) both.1 other.fault) in
        one_field_fault scripted some.word some.fields f g some.fault moved)
  ]
]

-- ---- a request has no fault

said_or_faulty : (scripted : Bool) (w : RequestWord) (fields : List (List ℕ)) (vs : List Value) (f : Fault) → Takes scripted w (map form_of vs) → AreSpelled vs fields
    → IsFieldFault scripted w fields f → ⊥
said_or_faulty scripted w fields vs f takes spelled wrong = elim (count_or_field scripted w fields f wrong) [
  | inl (is, miscounted) ↦ miscounted (map form_of vs) takes (spelled_length vs fields spelled)
  | inr (k, is, (forms, too, counted, bad)) ↦
      (let same = one_taken scripted w forms (map form_of vs) too takes (counted ∙ sym (spelled_length vs fields spelled)) in
      none_bad 1 vs fields k spelled (subst (λ (fs : List Form). FirstBad 1 fs fields k) same bad))
]

pub request_or_fault : (scripted : Bool) (line : List ℕ) (r : Request) (f : Fault) → IsRequest scripted line r → IsRequestFault scripted line f → ⊥
request_or_fault scripted line r f p q = elim (first_or_field scripted line f q) [
  | inl (is, none) ↦ known_word line (word_of r) p.fields none p.words
  | inr some ↦
      (let both = same_words line some.word (word_of r) some.fields p.fields some.words p.words in
      let moved : IsFieldFault scripted (word_of r) p.fields f = subst (λ (w : RequestWord). IsFieldFault scripted w p.fields f) both.0 (subst (λ (fs : List (List ℕ)). IsFieldFault scripted some.word fs f) both.1 some.fault) in
      said_or_faulty scripted (word_of r) p.fields (values_of r) f p.said.takes p.said.spelled moved)
]
