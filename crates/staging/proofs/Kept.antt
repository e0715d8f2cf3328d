-- What is kept of a document, and how it is read.
use Rattle.std.proofs.Common.{◌≡◌, ℕ, ◌+◌, ◌<◌, List, [], ◌∷◌, ◌++◌, length, Option, Some, None, Bool, true, false, if◌then◌else◌, inl, refl, sym, ap, subst, ◌∙◌, append_assoc, append-nil, arith, nat_lt}
use Rattle.std.proofs.lemmas.Bool.{lt-ltb, ltb-true}
use Rattle.std.proofs.lemmas.Grind.{flat_map-append}
use Rattle.std.proofs.lemmas.List.{length-append}
use Rattle.cim_words.specs.Written.{line_feed}
use Rattle.difference.specs.Document.{IsDocument}
use Rattle.difference.specs.Faults.{IsFault}
use Rattle.room_words.specs.Differences.{Changes, most_bytes}
use Rattle.room_words.specs.declared.stage_fault.StageFault.{StageFault}
use Rattle.room_words.specs.declared.stage_fault.StageWord.TheVariants as stage
use Rattle.staging.specs.Documents.{HasFault, Says, document_text, kept, more_kept}

-- a document of one line more
document_more : (lines : List (List ℕ)) (line : List ℕ) → document_text (lines ++ line ∷ []) ≡ document_text lines ++ line ++ line_feed ∷ []
document_more lines line =
    flat_map-append (λ (l : List ℕ). l ++ line_feed ∷ []) lines (line ∷ []) ∙ ap (λ (rest : List ℕ). document_text lines ++ rest) (append-nil (line ++ line_feed ∷ []))
    ∙ sym (append_assoc (document_text lines) line (line_feed ∷ []))

kept_by : (text : List ℕ) (b : Bool) → nat_lt most_bytes (length text) ≡ b → kept text ≡ (if b then None else Some text)
kept_by text b is = rw is refl

-- what is kept of a document that goes on is what is kept of the longer one
pub kept_more : (lines : List (List ℕ)) (line : List ℕ) → more_kept (kept (document_text lines)) line ≡ kept (document_text (lines ++ line ∷ []))
kept_more lines line = by (nat_lt most_bytes (length (document_text lines))) refl ∙ ap kept (sym (document_more lines line))
  where
    text : List ℕ
    text = document_text lines

    by : (b : Bool) → nat_lt most_bytes (length text) ≡ b → more_kept (kept text) line ≡ kept (text ++ line ++ line_feed ∷ [])
    by true is =
        let long : most_bytes < length text = ltb-true most_bytes (length text) is in
        let ended : length (text ++ line ++ line_feed ∷ []) ≡ length (text ++ line) + 1 = length-append (text ++ line) (line_feed ∷ []) in
        let size : length (text ++ line) ≡ length text + length line = length-append text line in
        let longer : most_bytes < length (text ++ line ++ line_feed ∷ []) = omega (arith, long, size, ended) in
        rw (kept_by text true is, kept_by (text ++ line ++ line_feed ∷ []) true (lt-ltb _ _ longer)) refl
    by false is = rw (kept_by text false is) refl

-- what is kept of a text says what the text says
pub kept_says : (text : List ℕ) (d : Changes) → Says (kept text) d → IsDocument text d
kept_says text d says = by (nat_lt most_bytes (length text)) refl
  where
    by : (b : Bool) → nat_lt most_bytes (length text) ≡ b → IsDocument text d
    by true is = absurd (subst (λ (k : Option (List ℕ)). Says k d) (kept_by text true is) says)
    by false is = subst (λ (k : Option (List ℕ)). Says k d) (kept_by text false is) says

-- and has the fault that the text has
pub kept_fault : (text : List ℕ) (bad : StageFault) → HasFault (kept text) bad → IsFault text bad
kept_fault text bad has = by (nat_lt most_bytes (length text)) refl
  where
    by : (b : Bool) → nat_lt most_bytes (length text) ≡ b → IsFault text bad
    by true is =
        let too_long : bad ≡ record { line = 0; word = stage.TooLong } = subst (λ (k : Option (List ℕ)). HasFault k bad) (kept_by text true is) has in
        subst (IsFault text) (sym too_long) (refl, inl (ltb-true most_bytes (length text) is))
    by false is = subst (λ (k : Option (List ℕ)). HasFault k bad) (kept_by text false is) has
