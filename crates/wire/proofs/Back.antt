-- What is written of an act is read as that act.
use Rattle.std.proofs.Common.{◌≡◌, ◌<◌, ◌^◌, ℕ, List, [], ◌∷◌, ◌++◌, map, length, get_or, Bool, true, false, not, Some, inl, inr, arith, refl, sym, ap, ◌∙◌, subst, append_assoc}
use Rattle.std.proofs.lemmas.Bool.Decides.{nat_tests}
use Rattle.std.proofs.lemmas.Fmt.{decimal_digit, decimal_is_IsNumeral}
use Rattle.std.proofs.lemmas.List.{append-nil, get_or_default}
use Rattle.std.proofs.lemmas.List.Folds.{list_all-append}
use Rattle.std.proofs.lemmas.List.Splits.{slice_split_at, slice_split_none}
use Rattle.std.proofs.lemmas.List.Sums.{AllPass-from_list_all, list_all-from_AllPass}
use Rattle.std.proofs.lemmas.Str.Parse.{digit_at}
use Rattle.std.specs.Fmt.{decimal}
use Rattle.std.specs.List.{All, list_all}
use Rattle.std.specs.Prelude.{codes}
use Rattle.cim_words.specs.IdText.{id_text, plain_number}
use Rattle.cim_words.specs.Phases.{has_no_phase, phase_text, secondary_text, text_if}
use Rattle.cim_words.specs.declared.phases.PhaseSet.{PhaseSet}
use Rattle.room_words.specs.declared.act.Act.{Act}
use Rattle.room_words.specs.declared.act.Act.TheVariants as act
use Rattle.room_words.specs.declared.anchor.Anchor.TheVariants as anchor
use Rattle.wire.specs.Requests.{IsRequest, act_text, fields_after, request_word, values_of_act, word_of_act}
use Rattle.wire.specs.Values.{AreSpelled, AreWritten, IsWritten, Spells, Value, anchored, form_of, long, named, phased, seen, value_text}
use Rattle.wire.specs.Words.{is_space, space, spaced, words_of, words_text}
use Rattle.wire.specs.declared.request.Request.TheVariants as request
use Rattle.wire.specs.declared.request_word.RequestWord.{RequestWord}
use Rattle.wire.specs.declared.request_word.RequestWord.TheVariants.{Open, Close, Release, Remove, Cut, Clamp, Jumper, Ground, Trace, Look, Stage, Cutover, Bye}
use Rattle.wire.proofs.Utf8.{from_b, from_c, from_dash, from_n, from_s, id_plain}

-- ---- words without spaces

abbrev is_letter : ℕ → Bool
is_letter byte = not (is_space byte)

abbrev IsFree : List ℕ → Type 0
IsFree word = list_all is_letter word ≡ true

abbrev AreFree : List (List ℕ) → Type 0
AreFree [] = Unit {0}
AreFree (word ∷ words) = IsFree word × AreFree words

not_true : (b : Bool) → not b ≡ true → b ≡ false
not_true true is = absurd cc
not_true false is = refl

all_letters : (word : List ℕ) → IsFree word → All (λ byte. is_space byte ≡ false) word
all_letters word free k d within = not_true (is_space (get_or word k d)) (AllPass-from_list_all is_letter word free k d within)

-- words that are written with spaces between them are the words of the line
words_back : (first : List ℕ) (words : List (List ℕ)) → IsFree first → AreFree words → words_of (words_text first words) ≡ first ∷ words
unfolding words_of
words_back first [] free all = rw append-nil (slice_split_none is_space first (all_letters first free))
words_back first (word ∷ words) free all =
    slice_split_at is_space first space (word ++ spaced words) (all_letters first free) refl ∙ ap (λ (ws : List (List ℕ)). first ∷ ws) (words_back word words all.0 all.1)

both_free : (a b : List ℕ) → IsFree a → IsFree b → IsFree (a ++ b)
both_free a b p q = list_all-append is_letter a b ∙ rw (p, q) refl

letter_above : (byte : ℕ) → 44 < byte → is_letter byte ≡ true
letter_above byte above = grind (arith, nat_tests)

free_above : (word : List ℕ) → ((i : ℕ) → i < length word → 44 < get_or word i 0) → IsFree word
free_above word above = list_all-from_AllPass is_letter word (λ i d within. rw (get_or_default word i d 0 within) (letter_above (get_or word i 0) (above i within)))

word_free : (w : RequestWord) → IsFree (request_word w)
word_free Open = refl
word_free Close = refl
word_free Release = refl
word_free Remove = refl
word_free Cut = refl
word_free Clamp = refl
word_free Jumper = refl
word_free Ground = refl
word_free Trace = refl
word_free Look = refl
word_free Stage = refl
word_free Cutover = refl
word_free Bye = refl

decimal_free : (n : ℕ) → n < 2 ^ 64 → IsFree (decimal n)
decimal_free n fits =
    let digits = (decimal_is_IsNumeral n fits).0.1 in
    free_above (decimal n) (λ i within. let range = digit_at (decimal n) i digits within in omega (arith, range.0))

if_free : (wanted : Bool) (part : List ℕ) → IsFree part → IsFree (text_if wanted part)
if_free true part free = free
if_free false part free = refl

secondary_free : (s1 s2 : Bool) → IsFree (secondary_text s1 s2)
secondary_free true true = refl
secondary_free true false = refl
secondary_free false true = refl
secondary_free false false = refl

phases_free : (set : PhaseSet) → IsFree (phase_text set)
unfolding phase_text
phases_free set =
    let none = both_free (text_if (has_no_phase set) (codes "-")) [] (if_free (has_no_phase set) (codes "-") refl) refl in
    let n = both_free (text_if set.n (codes "N")) (from_dash set) (if_free set.n (codes "N") refl) none in
    let s = both_free (secondary_text set.s1 set.s2) (from_n set) (secondary_free set.s1 set.s2) n in
    let c = both_free (text_if set.c (codes "C")) (from_s set) (if_free set.c (codes "C") refl) s in
    let b = both_free (text_if set.b (codes "B")) (from_c set) (if_free set.b (codes "B") refl) c in
    both_free (text_if set.a (codes "A")) (from_b set) (if_free set.a (codes "A") refl) b

-- ---- values

-- what is written for an identifier is read as it
abbrev pub ReadBack : Type 0
ReadBack = (number : ℕ) → number < 2 ^ 128 → plain_number (id_text number) ≡ Some number

id_free : ReadBack → (number : ℕ) → number < 2 ^ 128 → IsFree (id_text number)
id_free back number fits =
    let plain = id_plain (id_text number) number (back number fits) in
    free_above (id_text number) (λ i within. (plain.1 i (omega (arith, plain.0))).0)

side_text : (text : List ℕ) (side digit : ℕ) → decimal side ≡ digit ∷ [] → codes "s:" ++ text ++ codes ":" ++ decimal side ≡ codes "s:" ++ text ++ (58 ∷ digit ∷ [])
side_text text side digit is = rw is (append_assoc (codes "s:" ++ text) (codes ":") (digit ∷ []))

side_one : (side : ℕ) → side ≡ 1 → decimal side ≡ 49 ∷ []
side_one side is = ap decimal is ∙ decimal_digit 1 (omega arith)

side_two : (side : ℕ) → side ≡ 2 → decimal side ≡ 50 ∷ []
side_two side is = ap decimal is ∙ decimal_digit 2 (omega arith)

value_back : ReadBack → (v : Value) → IsWritten v → Spells v (value_text v) × IsFree (value_text v)
value_back back (named id) written = (back id.number written, id_free back id.number written)
value_back back (long far) written = ((refl, written), decimal_free far.mm (omega arith))
value_back back (anchored (anchor.Node id)) written =
    ((id_text id.number, refl, back id.number written), both_free (codes "n:") (id_text id.number) refl (id_free back id.number written))
value_back back (anchored (anchor.Side id side)) (fits, inl one) =
    let text = side_text (id_text id.number) side 49 (side_one side one) in (
      (id_text id.number, back id.number fits, inl (one, text)),
      subst IsFree (sym text) (both_free (codes "s:" ++ id_text id.number) (codes ":1") (both_free (codes "s:") (id_text id.number) refl (id_free back id.number fits)) refl),
    )
value_back back (anchored (anchor.Side id side)) (fits, inr two) =
    let text = side_text (id_text id.number) side 50 (side_two side two) in (
      (id_text id.number, back id.number fits, inr (two, text)),
      subst IsFree (sym text) (both_free (codes "s:" ++ id_text id.number) (codes ":2") (both_free (codes "s:") (id_text id.number) refl (id_free back id.number fits)) refl),
    )
value_back back (phased set) written = (refl, phases_free set)
value_back back (seen count) written = ((refl, written), decimal_free count (omega arith))

spelled_back : ReadBack → (vs : List Value) → AreWritten vs → AreSpelled vs (map value_text vs) × AreFree (map value_text vs)
spelled_back back [] written = (tt, tt)
spelled_back back (v ∷ vs) written =
    let first = value_back back v written.0 in
    let rest = spelled_back back vs written.1 in
    ((first.0, rest.0), (first.1, rest.1))

-- ---- acts

forms_of_act : (a : Act) → map form_of (values_of_act a) ≡ fields_after (word_of_act a)
forms_of_act (act.OpenSwitch id) = refl
forms_of_act (act.CloseSwitch id) = refl
forms_of_act (act.Release id) = refl
forms_of_act (act.Remove id) = refl
forms_of_act (act.Cut new_id segment far) = refl
forms_of_act (act.Clamp new_id segment far) = refl
forms_of_act (act.Jumper new_id first second set) = refl
forms_of_act (act.Ground new_id at set) = refl

pub act_back : ReadBack → (scripted : Bool) (a : Act) → AreWritten (values_of_act a) → IsRequest scripted (act_text a) (request.Act a)
act_back back scripted a written =
    let fields = spelled_back back (values_of_act a) written in
    record {
      fields = map value_text (values_of_act a);
      words = words_back (request_word (word_of_act a)) (map value_text (values_of_act a)) (word_free (word_of_act a)) fields.1;
      said = record { word = refl; takes = inl (forms_of_act a); spelled = fields.0 };
    }
