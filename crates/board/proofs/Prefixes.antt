-- Beginnings of one list.
use Rattle.std.proofs.Common.{◌≡◌, ℕ, ◌≤◌, List, [], ◌∷◌, ◌++◌, length, take, refl, ap, sym, ◌∙◌, arith}
use Rattle.std.proofs.Math.Seq.{take-length}
use Rattle.std.proofs.lemmas.List.{length-take, take-take, take_all}
use Rattle.board.specs.Lists.{IsPrefix, last_or}

module _ {A : Type 0} where
  pub prefix_refl : (xs : List A) → IsPrefix xs xs
  prefix_refl xs = take-length xs

  -- a list begins with none of it
  pub prefix_nil : (ys : List A) → IsPrefix [] ys
  prefix_nil [] = refl
  prefix_nil (y ∷ ys) = refl

  pub prefix_length : (xs ys : List A) → IsPrefix xs ys → length xs ≤ length ys
  prefix_length xs ys p = let e : length (take (length xs) ys) ≡ length xs = ap length p in omega (arith, length-take (length xs) ys, e)

  pub prefix_trans : (xs ys zs : List A) → IsPrefix xs ys → IsPrefix ys zs → IsPrefix xs zs
  prefix_trans xs ys zs p q = sym (take-take (length xs) (length ys) zs (prefix_length xs ys p)) ∙ (ap (take (length xs)) q ∙ p)

  -- of two beginnings of one list the shorter begins the longer
  pub prefix_shorter : (xs ys zs : List A) → IsPrefix xs zs → IsPrefix ys zs → length xs ≤ length ys → IsPrefix xs ys
  prefix_shorter xs ys zs p q le = ap (take (length xs)) (sym q) ∙ (take-take (length xs) (length ys) zs le ∙ p)

  -- a beginning as long as the whole is the whole
  pub prefix_whole : (xs ys : List A) → IsPrefix xs ys → length ys ≤ length xs → xs ≡ ys
  prefix_whole xs ys p le = sym p ∙ take_all (length xs) ys le

pub last_snoc : (d : ℕ) (ns : List ℕ) (n : ℕ) → last_or d (ns ++ n ∷ []) ≡ n
last_snoc d [] n = refl
last_snoc d (m ∷ ns) n = last_snoc m ns n
