-- What went to the output, one text after the other.
use Rattle.std.proofs.Common.{◌≡◌, ℕ, ◌+◌, List, [], ◌∷◌, ◌++◌, length, take, Option, Some, None, flat_map, refl, sym, ap, subst, ◌∙◌, append_assoc, append-nil}
use Rattle.std.proofs.lemmas.Grind.{flat_map-append}
use Rattle.std.proofs.Math.Seq.{take-append-add}
use Rattle.grid_out.specs.Faults.{Rose}
use Rattle.grid_out.specs.Notes.{Grows}
use Rattle.grid_out.specs.Sink.{Gains, GainsPrefix, Hands}
use Rattle.history_writer.specs.Sending.{Breaks, HandsText, OutputState, Sends}

gains_none : (old : Option (List ℕ)) → Gains old old []
gains_none None = tt
gains_none (Some held) = ap Some (sym (append-nil held))

gains_more : (old mid new : Option (List ℕ)) (a b : List ℕ) → Gains old mid a → Gains mid new b → Gains old new (a ++ b)
gains_more None mid new a b first next = tt
gains_more (Some held) None new a b first next = absurd cc
gains_more (Some held) (Some more) new a b first next =
    let same : more ≡ held ++ a = cc in
    next ∙ ap (λ (l : List ℕ). Some (l ++ b)) same ∙ ap Some (append_assoc held a b)

grows_none : (old : Option (List (List ℕ))) → Grows old old []
grows_none None = tt
grows_none (Some all) = (all, refl, sym (append-nil all))

grows_more : (old mid new : Option (List (List ℕ))) (a b : List (List ℕ)) → Grows old mid a → Grows mid new b → Grows old new (a ++ b)
grows_more old mid None a b first next = tt
grows_more old mid (Some all) a b first next = grown mid first next.0 next.1 next.2
  where
    grown : (mid : Option (List (List ℕ))) → Grows old mid a → (before : List (List ℕ)) → mid ≡ Some before → all ≡ before ++ b → Grows old (Some all) (a ++ b)
    grown None first before is all_is = absurd cc
    grown (Some held) first before is all_is =
        let same : held ≡ before = cc in
        (first.0, first.1, all_is ∙ ap (λ (l : List (List ℕ)). l ++ b) (sym same ∙ first.2) ∙ append_assoc first.0 a b)

abbrev whole : List (List ℕ) → List ℕ
whole = flat_map (λ piece. piece)

hands_none : (old : Option (List (List ℕ))) → HandsText old old []
hands_none old = ([], refl, grows_none old)

hands_one : (old new : Option (List (List ℕ))) (piece : List ℕ) → Hands old new (piece ∷ []) → HandsText old new piece
hands_one old new piece hands = (piece ∷ [], append-nil piece, hands)

hands_more : (old mid new : Option (List (List ℕ))) (a b : List ℕ) → HandsText old mid a → HandsText mid new b → HandsText old new (a ++ b)
hands_more old mid new a b first next =
    (first.0 ++ next.0, flat_map-append (λ piece. piece) first.0 next.0 ∙ ap (λ (l : List ℕ). l ++ whole next.0) first.1 ∙ ap (λ (l : List ℕ). a ++ l) next.1, grows_more old mid new first.0 next.0 first.2 next.2)

pub sends_none : (before : OutputState) → Sends before before []
sends_none before = record { gains = gains_none before.written; faults = refl; hands = hands_none before.handed }

pub sends_one : (before after : OutputState) (text : List ℕ) → Gains before.written after.written text → after.faults ≡ before.faults → Hands before.handed after.handed (text ∷ []) → Sends before after text
sends_one before after text gains faults hands = record { gains = gains; faults = faults; hands = hands_one before.handed after.handed text hands }

pub breaks_one : (before after : OutputState) (text : List ℕ) → GainsPrefix before.written after.written text → Rose before.faults after.faults → Hands before.handed after.handed (text ∷ []) → Breaks before after text
breaks_one before after text gains fault hands = record { gains = gains; fault = fault; hands = hands_one before.handed after.handed text hands }

pub sends_more : (before mid after : OutputState) (a b : List ℕ) → Sends before mid a → Sends mid after b → Sends before after (a ++ b)
sends_more before mid after a b first next = record {
  gains = gains_more before.written mid.written after.written a b first.gains next.gains;
  faults = next.faults ∙ first.faults;
  hands = hands_more before.handed mid.handed after.handed a b first.hands next.hands;
}

pub breaks_after : (before mid after : OutputState) (a b : List ℕ) → Sends before mid a → Breaks mid after b → Breaks before after (a ++ b)
breaks_after before mid after a b first next = record {
  gains = (
    length a + next.gains.0,
    subst (Gains before.written after.written) (sym (take-append-add a b next.gains.0)) (gains_more before.written mid.written after.written a (take next.gains.0 b) first.gains next.gains.1),
  );
  fault = subst (λ (n : ℕ). Rose n after.faults) first.faults next.fault;
  hands = hands_more before.handed mid.handed after.handed a b first.hands next.hands;
}
