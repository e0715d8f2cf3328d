-- A history, entry by entry.
use Rattle.std.proofs.Common.{◌≡◌, ℕ, ◌+◌, ◌<◌, ◌≤◌, List, [], ◌∷◌, ◌++◌, length, take, get_or, codes, suc, zero, refl, sym, ap, ◌∙◌, append_assoc, append-nil, arith}
use Rattle.std.proofs.lemmas.List.{length-take-le, take_all, take_more}
use Rattle.std.specs.Fmt.{decimal}
use Rattle.cim_words.specs.Written.{line_feed}
use Rattle.room_words.specs.declared.event.Entry.{Entry}
use Rattle.wire.specs.Entries.{entries_text, entry_text, history_text}

-- the first line of a history, and its text up to an entry
abbrev pub head_text : List Entry → List ℕ
head_text log = codes "history " ++ decimal (length log) ++ line_feed ∷ []

abbrev pub told_of : List ℕ → List Entry → ℕ → List ℕ
told_of kept log count = kept ++ (head_text log ++ entries_text 1 (take count log))

-- the text of entries is a front of the text of more
entries_rest : (n : ℕ) (log : List Entry) (count : ℕ) → (rest : List ℕ) × (entries_text n (take count log) ++ rest ≡ entries_text n log)
entries_rest n log zero = (entries_text n log, refl)
entries_rest n [] (suc count) = ([], refl)
entries_rest n (entry ∷ log) (suc count) =
    let further = entries_rest (n + 1) log count in
    (further.0, append_assoc (entry_text n entry) (entries_text (n + 1) (take count log)) further.0 ∙ ap (λ (l : List ℕ). entry_text n entry ++ l) further.1)

-- the text of entries goes on by the text of one more
entries_next : (n : ℕ) (log : List Entry) (entry : Entry) → entries_text n (log ++ entry ∷ []) ≡ entries_text n log ++ entry_text (length log + n) entry
entries_next n [] entry = append-nil (entry_text n entry) ∙ ap (λ (m : ℕ). entry_text m entry) (let same : n ≡ 0 + n = omega arith in same)
entries_next n (first ∷ log) entry =
    let number : length log + (n + 1) ≡ length (first ∷ log) + n = omega arith in
    ap (λ (l : List ℕ). entry_text n first ++ l) (entries_next (n + 1) log entry ∙ ap (λ (m : ℕ). entries_text (n + 1) log ++ entry_text m entry) number)
    ∙ sym (append_assoc (entry_text n first) (entries_text (n + 1) log) (entry_text (length (first ∷ log) + n) entry))

pub told_step : (kept : List ℕ) (log : List Entry) (count : ℕ) (entry : Entry) → count < length log → entry ≡ get_or log count entry
    → told_of kept log (count + 1) ≡ told_of kept log count ++ entry_text (count + 1) entry
told_step kept log count entry within is =
    let one : take (count + 1) log ≡ take count log ++ entry ∷ [] = take_more log count entry within ∙ ap (λ (e : Entry). take count log ++ e ∷ []) (sym is) in
    let number : length (take count log) + 1 ≡ count + 1 = ap (λ (m : ℕ). m + 1) (length-take-le count log (omega (arith, within))) in
    let next : entries_text 1 (take (count + 1) log) ≡ entries_text 1 (take count log) ++ entry_text (count + 1) entry =
    ap (entries_text 1) one ∙ entries_next 1 (take count log) entry ∙ ap (λ (m : ℕ). entries_text 1 (take count log) ++ entry_text m entry) number in
    ap (λ (l : List ℕ). kept ++ (head_text log ++ l)) next
    ∙ ap (λ (l : List ℕ). kept ++ l) (sym (append_assoc (head_text log) (entries_text 1 (take count log)) (entry_text (count + 1) entry)))
    ∙ sym (append_assoc kept (head_text log ++ entries_text 1 (take count log)) (entry_text (count + 1) entry))

-- the head of a history before the rest of it
head_first : (log : List Entry) (rest : List ℕ) → head_text log ++ rest ≡ codes "history " ++ decimal (length log) ++ line_feed ∷ rest
head_first log rest =
    append_assoc (codes "history ") (decimal (length log) ++ line_feed ∷ []) rest ∙ ap (λ (l : List ℕ). codes "history " ++ l) (append_assoc (decimal (length log)) (line_feed ∷ []) rest)

pub told_front : (kept : List ℕ) (log : List Entry) (count : ℕ) → (more : List ℕ) × (told_of kept log count ++ more ≡ kept ++ history_text log)
unfolding history_text
told_front kept log count =
    let rest = entries_rest 1 log count in (
      rest.0,
      append_assoc kept (head_text log ++ entries_text 1 (take count log)) rest.0
          ∙ ap (λ (l : List ℕ). kept ++ l) (append_assoc (head_text log) (entries_text 1 (take count log)) rest.0 ∙ ap (λ (l : List ℕ). head_text log ++ l) rest.1 ∙ head_first log (entries_text 1 log)),
    )

-- the head alone, and the whole
pub told_first : (kept : List ℕ) (log : List Entry) (text : List ℕ) (count : ℕ) → count ≡ length log → text ≡ kept ++ (codes "history " ++ decimal count ++ line_feed ∷ [])
    → text ≡ told_of kept log 0
told_first kept log text count is written =
    written ∙ ap (λ (n : ℕ). kept ++ (codes "history " ++ decimal n ++ line_feed ∷ [])) is ∙ ap (λ (l : List ℕ). kept ++ l) (sym (append-nil (head_text log)))

pub told_last : (kept : List ℕ) (log : List Entry) (count : ℕ) → length log ≤ count → told_of kept log count ≡ kept ++ history_text log
unfolding history_text
told_last kept log count all =
    ap (λ (l : List ℕ). kept ++ l) (ap (λ (entries : List Entry). head_text log ++ entries_text 1 entries) (take_all count log all) ∙ head_first log (entries_text 1 log))
