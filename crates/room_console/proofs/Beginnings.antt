-- Beginnings of one list.
use Rattle.std.proofs.Common.{◌≡◌, ◌≤◌, List, ◌++◌, length, take, ap, sym, ◌∙◌, arith}
use Rattle.std.proofs.Math.Seq.{take-length}
use Rattle.std.proofs.lemmas.List.{length-take, take-take, take-append-le}
use Rattle.board.specs.Lists.{IsPrefix}

module _ {A : Type 0} where
  pub prefix_refl : (xs : List A) → IsPrefix xs xs
  prefix_refl xs = take-length xs

  pub prefix_length : (xs ys : List A) → IsPrefix xs ys → length xs ≤ length ys
  prefix_length xs ys begins = let same : length (take (length xs) ys) ≡ length xs = ap length begins in omega (arith, length-take (length xs) ys, same)

  pub prefix_trans : (xs ys zs : List A) → IsPrefix xs ys → IsPrefix ys zs → IsPrefix xs zs
  prefix_trans xs ys zs begins more = sym (take-take (length xs) (length ys) zs (prefix_length xs ys begins)) ∙ (ap (take (length xs)) more ∙ begins)

  pub prefix_append : (xs ys zs : List A) → IsPrefix xs ys → IsPrefix xs (ys ++ zs)
  prefix_append xs ys zs begins = take-append-le (length xs) ys zs (prefix_length xs ys begins) ∙ begins
