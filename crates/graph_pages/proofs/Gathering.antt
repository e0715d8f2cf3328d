-- Items that come into buckets one by one.
use Rattle.std.proofs.Common.{◌≡◌, ℕ, zero, suc, ◌<◌, Bool, true, cond, List, [], ◌∷◌, ◌++◌, map, length, get_or, set, replicate, None, Some, refl, sym, ap, ◌∙◌, subst}
use Rattle.std.specs.Iterator.{Yields}
use Rattle.std.specs.List.{IsDistinct}
use Rattle.std.specs.Vec.Iter.{into_iter_items, into_iter_steps}
use Rattle.std.specs.declared.vec.IntoIter.{IntoIter}
use Rattle.std.proofs.Math.Nat.{mod-lt}
use Rattle.std.proofs.lemmas.List.{get_or_default}
use Rattle.graph_pages.specs.Buckets.{AreBuckets, IsBucket, all_items, place_of}
use Rattle.graph_pages.specs.Keyed.{item_at}
use Rattle.graph_pages.proofs.Items.{found_push, none_before}
use Rattle.graph_pages.proofs.OneBucket.{found_more, stay_more}

-- what the iterator of a vector has given is a front of its items
pub taken_front : {X A : Type 0} (s : IntoIter X A) (xs : List X) (t : IntoIter X A) → Yields into_iter_steps s xs t → into_iter_items s ≡ xs ++ into_iter_items t
taken_front s [] t y = ap into_iter_items y
taken_front s (x ∷ xs) t y = y.1.0 ∙ ap (λ ys. x ∷ ys) (taken_front y.0 xs t y.2)

-- ---- before the first comes

pub none_at_all : {T : Type 0} (n : ℕ) → all_items {T = T} (replicate n []) ≡ []
none_at_all zero = refl
none_at_all (suc n) = none_at_all n

module _ {T K : Type 0} (key : T → K) (same : K → K → Bool) (fold : K → ℕ) where
  empty_is : (count place : ℕ) → IsBucket key same fold count place []
  unfolding IsDistinct
  empty_is count place = record { belong = tt; differ = tt }

  empty_is_at : (count place n i : ℕ) → IsBucket key same fold count place (get_or (replicate n []) i [])
  empty_is_at count place zero i = empty_is count place
  empty_is_at count place (suc n) zero = empty_is count place
  empty_is_at count place (suc n) (suc i) = empty_is_at count place n i

  pub empty_are : (n : ℕ) → AreBuckets key same fold (replicate n [])
  empty_are n place within = empty_is_at (length (replicate n [])) place n place

-- ---- one more comes

module _ {T K : Type 0} (key : T → K) (same : K → K → Bool) (fold : K → ℕ) (itself : (k : K) → same k k ≡ true) (exact : (a b : K) → same a b ≡ true → a ≡ b) (old : List (List T)) (n : ℕ) (t : T) (ys ts : List T) (are : AreBuckets key same fold old) (some : 0 < length old) (is : n ≡ place_of fold (length old) (key t)) (found : (q : K) → item_at key same q (all_items old) ≡ item_at key same q ys) (differ : IsDistinct same (map key (ys ++ t ∷ ts))) where
  -- the bucket, as it stands whatever is read where none is
  stands : get_or old n [] ≡ get_or old n (get_or old n [])
  stands = get_or_default old n [] (get_or old n []) (subst (λ m. m < length old) (sym is) (mod-lt (fold (key t)) some))

  new_key : item_at key same (key t) (all_items old) ≡ None
  new_key = found (key t) ∙ none_before key same itself exact t ys ts differ

  pub gathers_stay : AreBuckets key same fold (set old n (get_or old n [] ++ t ∷ []))
  gathers_stay = stay_more key same fold itself exact old n (key t) (get_or old n []) are some is stands t refl new_key

  pub gathers_found : (q : K) → item_at key same q (all_items (set old n (get_or old n [] ++ t ∷ []))) ≡ item_at key same q (ys ++ t ∷ [])
  gathers_found q =
      found_more key same fold itself exact old n (key t) (get_or old n []) are some is stands t refl new_key q
      ∙ ap (cond (same (key t) q) (Some t)) (found q)
      ∙ sym (found_push key same itself exact t q ys (none_before key same itself exact t ys ts differ))
