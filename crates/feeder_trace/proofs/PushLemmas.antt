-- What stands at the places of a list that has one item more at its end.
use Rattle.std.proofs.Common.{◌≡◌, ◌⊎◌, ◌<◌, ℕ, Bool, true, false, cond, zero, suc, ltb, List, [], ◌∷◌, ◌++◌, length, Some, None, get_or, slice_get, position, refl, sym, ap, ◌∙◌, subst, inl, inr, ⊎_elim, arith}
use Rattle.std.specs.List.{position_or_len}
use Rattle.std.proofs.lemmas.List.{get_or_append_left}
use Rattle.std.proofs.Math.Seq.{get_or-append_seam}
use Rattle.std.proofs.lemmas.Bool.{cases_eq, lt-ltb}
use Rattle.std.proofs.lemmas.Iterator.Adapters.{position_from-zero}
use Rattle.std.proofs.lemmas.List.{length_push}
use Rattle.std.proofs.lemmas.List.Quantifiers.{position-Some}
use Rattle.std.proofs.lemmas.List.Sums.{position_or_len_is}
use Rattle.std.proofs.lemmas.Option.{same_Some}
use Rattle.plain_laws.proofs.Members.{among_index}
use Rattle.plain_laws.proofs.Options.{position_none}

pub get_left : {X : Type 0} (xs : List X) (y : X) (i : ℕ) (x : X) → slice_get xs i ≡ Some x → slice_get (xs ++ y ∷ []) i ≡ Some x
get_left [] y i x h = cc
get_left (z ∷ zs) y zero x h = h
get_left (z ∷ zs) y (suc i) x h = get_left zs y i x h

pub get_last : {X : Type 0} (xs : List X) (y : X) → slice_get (xs ++ y ∷ []) (length xs) ≡ Some y
get_last [] y = refl
get_last (z ∷ zs) y = get_last zs y

pub get_cases : {X : Type 0} (xs : List X) (y : X) (i : ℕ) (x : X) → slice_get (xs ++ y ∷ []) i ≡ Some x → (slice_get xs i ≡ Some x) ⊎ ((i ≡ length xs) × (y ≡ x))
get_cases [] y zero x h = inr (refl, same_Some y x h)
get_cases [] y (suc i) x h = cc
get_cases (z ∷ zs) y zero x h = inl h
get_cases (z ∷ zs) y (suc i) x h = ⊎_elim inl (λ r. inr (ap suc r.0, r.1)) (get_cases zs y i x h)

-- ---- the first place at which a test passes
position_at : {X : Type 0} (p : X → Bool) (xs : List X) (i : ℕ) (d : X) → i < length xs → p (get_or xs i d) ≡ true → ((k : ℕ) → k < i → p (get_or xs k d) ≡ false) → position p xs ≡ Some i
position_at p xs i d within passes before =
    let first : position_or_len p xs ≡ i = position_or_len_is p xs i d (omega (arith, within)) before (λ below. passes) in
    subst (λ n. cond (ltb n (length xs)) (Some n) None ≡ Some i) (sym first) (ap (λ (b : Bool). cond b (Some i) None) (lt-ltb i (length xs) within))

module _ {X : Type 0} (p : X → Bool) (xs : List X) (y : X) where
  -- it stays where there is one
  pub position_left : (i : ℕ) → position p xs ≡ Some i → position p (xs ++ y ∷ []) ≡ Some i
  position_left i at =
      let (within, passes, before) = position-Some p xs i y at in
      position_at p (xs ++ y ∷ []) i y (omega (arith, within, length_push xs y)) (ap p (get_or_append_left xs (y ∷ []) y i within) ∙ passes)
      (λ k less. ap p (get_or_append_left xs (y ∷ []) y k (omega (arith, less, within))) ∙ before k less)

  -- and is the last one or was there before
  pub position_cases : (i : ℕ) → position p (xs ++ y ∷ []) ≡ Some i → (position p xs ≡ Some i) ⊎ (i ≡ length xs)
  position_cases i at =
      let (within, passes, before) = position-Some p (xs ++ y ∷ []) i y at in
      let longer = length_push xs y in
      ⊎_elim inr
      (λ apart.
      let inside : i < length xs = omega (arith, within, longer, apart) in
      inl (position_at p xs i y inside (sym (ap p (get_or_append_left xs (y ∷ []) y i inside)) ∙ passes)
      (λ k less. sym (ap p (get_or_append_left xs (y ∷ []) y k (omega (arith, less, inside)))) ∙ before k less)))
      (cases_eq i (length xs))

  pub position_last : position p xs ≡ None → p y ≡ true → position p (xs ++ y ∷ []) ≡ Some (length xs)
  position_last none passes =
      position_at p (xs ++ y ∷ []) (length xs) y (omega (arith, length_push xs y)) (ap p (get_or-append_seam xs y [] y) ∙ passes)
      (λ k less. ap p (get_or_append_left xs (y ∷ []) y k less) ∙ position_none p 0 xs (get_or xs k y) (sym (position_from-zero p xs) ∙ none) (among_index xs k y less))
