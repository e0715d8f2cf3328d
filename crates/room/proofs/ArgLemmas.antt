-- What is left of a list that is gone through from its front.
use Rattle.std.proofs.Common.{◌≡◌, List, [], ◌∷◌, ◌++◌, drop, length, map, Option, Some, None, Result, Ok, Err, MatchResult, refl, sym, ap, ◌∙◌, append_assoc, append-nil, arith}
use Rattle.std.specs.Vec.Iter.{into_iter_items, into_iter_len, into_iter_steps}
use Rattle.std.specs.declared.vec.IntoIter.{IntoIter}

-- nothing is left where none is counted
none_left : {X Z : Type 0} (it : IntoIter X Z) → into_iter_len it ≡ 0 → into_iter_items it ≡ []
none_left it none = nil_of _ (sym it.rest.ok.0 ∙ none) where
  nil_of : {X : Type 0} (xs : List X) → length xs ≡ 0 → xs ≡ []
  nil_of [] same = refl
  nil_of (x ∷ xs) same = absurd (omega (arith, same))

-- after the first was taken, what is left is all but the first
pub after_first : {X Z : Type 0} (s t : IntoIter X Z) (r : Option X) → into_iter_steps s r t → drop 1 (into_iter_items s) ≡ into_iter_items t
after_first s t None step = ap (drop 1) (none_left s step.0) ∙ sym (none_left t step.1)
after_first s t (Some x) step = ap (drop 1) step.0

-- what was taken and what is left are all
pub one_more : {X Z : Type 0} (all taken now : List X) (s t : IntoIter X Z) (x : X) → all ≡ taken ++ into_iter_items s → into_iter_steps s (Some x) t → now ≡ taken ++ x ∷ []
    → all ≡ now ++ into_iter_items t
one_more all taken now s t x so_far step more =
    so_far ∙ ap (λ l. taken ++ l) step.0 ∙ sym (append_assoc taken (x ∷ []) (into_iter_items t)) ∙ ap (λ l. l ++ into_iter_items t) (sym more)

pub no_more : {X Z : Type 0} (all taken : List X) (s t : IntoIter X Z) → all ≡ taken ++ into_iter_items s → into_iter_steps s None t → taken ≡ all
no_more all taken s t so_far step = sym (so_far ∙ ap (λ l. taken ++ l) (none_left s step.0) ∙ append-nil taken)

-- the words as bytes, where there are some; and where they were not had, the words that there would be
pub as_words : {A E X Y : Type 0} (r : Result A E) (items : A → List X) (f : X → Y) (xs ys : List X) → ys ≡ xs → MatchResult r (λ a. xs ≡ items a) (λ _. xs ≡ [])
    → MatchResult r (λ a. map f ys ≡ map f (items a)) (λ _. map f ys ≡ [])
as_words (Ok a) items f xs ys same is = ap (map f) (same ∙ is)
as_words (Err e) items f xs ys same is = ap (map f) (same ∙ is)

pub some_words : {A E Y : Type 0} (r : Result A E) (items : A → List Y) → (xs : List Y) × MatchResult r (λ a. xs ≡ items a) (λ _. xs ≡ [])
some_words (Ok a) items = (items a, refl)
some_words (Err e) items = ([], refl)
