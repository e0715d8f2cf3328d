-- Lists that one reader after the other is put to, or taken from.
use Rattle.std.proofs.Common.{◌≡◌, ℕ, zero, suc, ◌+◌, ◌<◌, List, [], ◌∷◌, ◌++◌, length, get_or, sym, refl, ap, ◌∙◌, subst, arith, Some, All, append_assoc, length-append, slice_get}
use mathlib.Core.Logic.{dite}
use native.Mathlib.Decide.{ℕ_discrete}
use Rattle.std.proofs.Math.Seq.{get_or-append_seam}

module _ {R : Type 0} where
  get_old : (xs : List R) (x : R) (c : ℕ) → c < length xs → slice_get (xs ++ x ∷ []) c ≡ slice_get xs c
  get_old [] x c l = absurd (omega arith)
  get_old (y ∷ xs) x zero l = refl
  get_old (y ∷ xs) x (suc c) l = get_old xs x c (omega arith)

  get_new : (xs : List R) (x : R) (c : ℕ) → c ≡ length xs → slice_get (xs ++ x ∷ []) c ≡ Some x
  get_new [] x zero e = refl
  get_new [] x (suc c) e = absurd (omega arith)
  get_new (y ∷ xs) x zero e = absurd (omega arith)
  get_new (y ∷ xs) x (suc c) e = get_new xs x c (omega arith)

  pub one_more : (f : ℕ → R) (xs ys : List R) (x : R) (n : ℕ) → ys ≡ xs ++ x ∷ [] → length xs ≡ n → ((c : ℕ) → c < n → slice_get xs c ≡ Some (f c)) → x ≡ f n → (length ys ≡ n + 1) × ((c : ℕ) → c < n + 1 → slice_get ys c ≡ Some (f c))
  one_more f xs ys x n is long each last = (
    (let e : length ys ≡ length (xs ++ x ∷ []) = ap length is in omega (arith, length-append xs (x ∷ []))),
    λ c l. ap (λ (zs : List R). slice_get zs c) is ∙ dite (ℕ_discrete c n)
        (λ e. get_new xs x c (e ∙ sym long) ∙ (ap (λ (z : R). Some z) last ∙ ap (λ (k : ℕ). Some (f k)) (sym e)))
        (λ ne. get_old xs x c (omega arith) ∙ each c (omega arith)),
  )

  -- what holds of all holds of one of them
  pub one_of : (P : R → Type 0) (all front done : List R) (r : R) → all ≡ (front ++ r ∷ []) ++ done → All P all → P r
  one_of P all front done r is holds =
      let e : all ≡ front ++ r ∷ done = is ∙ append_assoc front (r ∷ []) done in
      let inside : length front < length all = (let f : length all ≡ length (front ++ r ∷ done) = ap length e in omega (arith, length-append front (r ∷ done))) in
      subst P (ap (λ (zs : List R). get_or zs (length front) r) e ∙ get_or-append_seam front r done r) (holds (length front) r inside)

  -- one more is done, and one fewer is left
  pub moved : (all xs front done : List R) (r : R) → all ≡ xs ++ done → xs ≡ front ++ r ∷ [] → all ≡ front ++ r ∷ done
  moved all xs front done r is last = is ∙ (ap (λ (zs : List R). zs ++ done) last ∙ append_assoc front (r ∷ []) done)

  pub moved_twice : (all xs front done : List R) (r : R) → all ≡ xs ++ done → xs ≡ front ++ r ∷ [] → all ≡ (front ++ r ∷ []) ++ done
  moved_twice all xs front done r is last = is ∙ ap (λ (zs : List R). zs ++ done) last
