-- Posts in the order of their consoles, where each is changed and keeps its console.
use Rattle.std.proofs.Common.{◌≡◌, ℕ, zero, suc, ◌<◌, List, [], ◌∷◌, ◌++◌, length, map, take, Some, slice_get, slice_index_or, refl, ap, sym, subst, ◌∙◌, arith}
use Rattle.std.proofs.Math.Seq.{take-append_seam}
use Rattle.std.proofs.lemmas.List.{length-append}
use Rattle.std.proofs.lemmas.Option.{get_or_from_slice_get, slice_get-get_or, slice_get_within}
use Rattle.desk.specs.Ends.{PostState, AreAllPosts}

module _ {V O : Type 0} (consoles : ℕ) where
  abbrev place : PostState V O → ℕ
  place post = post.reader.console

  -- posts that are changed where they are
  pub kept_in_place : (xs ys : List (PostState V O)) → length ys ≡ length xs
      → ((index : ℕ) (post : PostState V O) → index < length xs → place (slice_index_or ys index post) ≡ place (slice_index_or xs index post))
      → AreAllPosts consoles xs → AreAllPosts consoles ys
  kept_in_place xs ys lengths each all = record {
    count = lengths ∙ all.count;
    order = λ index post is.
        let within = slice_get_within ys index post is in
        let inside : index < length xs = omega (arith, within, lengths) in
        ap place (sym (get_or_from_slice_get ys index post post is)) ∙ each index post inside ∙ all.order index (slice_index_or xs index post) (slice_get-get_or xs index post inside);
  }

  -- a vector whose posts are changed where they are
  pub written_back : (xs ys rest : List (PostState V O)) (len : ℕ) → len ≡ length xs → length ys ≡ length xs
      → ((index : ℕ) (post : PostState V O) → index < length xs → place (slice_index_or ys index post) ≡ place (slice_index_or xs index post))
      → AreAllPosts consoles xs → AreAllPosts consoles (take len (ys ++ rest))
  written_back xs ys rest len counted lengths each all =
      let same : length ys ≡ len = lengths ∙ sym counted in
      subst (AreAllPosts consoles) (sym (subst (λ n. take n (ys ++ rest) ≡ ys) same (take-append_seam ys rest))) (kept_in_place xs ys lengths each all)

  at_place : (xs ys : List (PostState V O)) → map place xs ≡ map place ys → (index : ℕ) (y : PostState V O) → slice_get ys index ≡ Some y
      → (x : PostState V O) × (slice_get xs index ≡ Some x) × (place x ≡ place y)
  at_place [] [] same index y is = absurd cc
  at_place [] (z ∷ ys) same index y is = absurd cc
  at_place (x ∷ xs) [] same index y is = absurd cc
  at_place (x ∷ xs) (z ∷ ys) same zero y is = let first : z ≡ y = cc in let heads : place x ≡ place z = cc in (x, refl, heads ∙ ap place first)
  at_place (x ∷ xs) (z ∷ ys) same (suc index) y is = let tails : map place xs ≡ map place ys = cc in at_place xs ys tails index y is

  same_number : (xs ys : List (PostState V O)) → map place xs ≡ map place ys → length ys ≡ length xs
  same_number [] [] same = refl
  same_number [] (z ∷ ys) same = absurd cc
  same_number (x ∷ xs) [] same = absurd cc
  same_number (x ∷ xs) (z ∷ ys) same = let tails : map place xs ≡ map place ys = cc in ap (λ n. suc n) (same_number xs ys tails)

  as_many : (xs ys : List (PostState V O)) → map place xs ≡ map place ys → AreAllPosts consoles xs → AreAllPosts consoles ys
  as_many xs ys same all = record {
    count = same_number xs ys same ∙ all.count;
    order = λ index post is. let its = at_place xs ys same index post is in sym its.2 ∙ all.order index its.0 its.1;
  }

  places_behind : (rest : List (PostState V O)) (a b x y : PostState V O) → place x ≡ place a → place y ≡ place b
      → map place ((rest ++ a ∷ []) ++ b ∷ []) ≡ map place ((rest ++ x ∷ []) ++ y ∷ [])
  places_behind [] a b x y one two = cc
  places_behind (z ∷ rest) a b x y one two = ap (λ (places : List ℕ). place z ∷ places) (places_behind rest a b x y one two)

  -- the last two are taken out, changed, and put back
  pub put_back : (all some rest : List (PostState V O)) (a b x y : PostState V O) → all ≡ some ++ b ∷ [] → some ≡ rest ++ a ∷ []
      → place x ≡ place a → place y ≡ place b → AreAllPosts consoles all → AreAllPosts consoles ((rest ++ x ∷ []) ++ y ∷ [])
  put_back all some rest a b x y last next one two are =
      let whole : all ≡ (rest ++ a ∷ []) ++ b ∷ [] = last ∙ ap (λ (posts : List (PostState V O)). posts ++ b ∷ []) next in
      as_many ((rest ++ a ∷ []) ++ b ∷ []) ((rest ++ x ∷ []) ++ y ∷ []) (places_behind rest a b x y one two) (subst (AreAllPosts consoles) whole are)
