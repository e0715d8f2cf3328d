-- The bucket of a key: what it says of all items, and what all items are after another takes its place.
use Rattle.std.proofs.Common.{◌≡◌, ℕ, ◌+◌, ◌<◌, Bool, true, cond, List, [], ◌∷◌, ◌++◌, length, get_or, set, Option, None, Some, sym, ap, ◌∙◌, subst, arith}
use Rattle.std.specs.List.{sum_by}
use Rattle.std.proofs.Math.Nat.{mod-lt}
use Rattle.std.proofs.lemmas.List.{get_or_default, length-set}
use Rattle.std.proofs.lemmas.List.Sums.{sum_by_push}
use Rattle.graph_pages.specs.Buckets.{AreBuckets, IsBucket, all_items, place_of}
use Rattle.graph_pages.specs.Keyed.{item_at, items_but, size_in}
use Rattle.graph_pages.proofs.Items.{found_but, found_push, found_put, gone, size_but}
use Rattle.graph_pages.proofs.Spread.{bucket_but, bucket_push, found_in, found_set, sizes_set, stay_buckets}

module _ {T K : Type 0} (key : T → K) (same : K → K → Bool) (fold : K → ℕ) (itself : (k : K) → same k k ≡ true) (exact : (a b : K) → same a b ≡ true → a ≡ b) (buckets : List (List T)) (n : ℕ) (k : K) (b : List T) (are : AreBuckets key same fold buckets) (some : 0 < length buckets) (is : n ≡ place_of fold (length buckets) k) (read : b ≡ get_or buckets n b) where
  pub there : n < length buckets
  there = subst (λ m. m < length buckets) (sym is) (mod-lt (fold k) some)

  bucket_is : b ≡ get_or buckets (place_of fold (length buckets) k) []
  bucket_is = read ∙ get_or_default buckets n b [] there ∙ ap (λ m. get_or buckets m []) is

  pub found_at : item_at key same k b ≡ item_at key same k (all_items buckets)
  found_at = ap (item_at key same k) bucket_is ∙ sym (found_in key same fold itself exact buckets k are some)

  pub own : IsBucket key same fold (length buckets) (place_of fold (length buckets) k) b
  own = subst (IsBucket key same fold (length buckets) (place_of fold (length buckets) k)) (sym bucket_is) (are (place_of fold (length buckets) k) (mod-lt (fold k) some))

  -- ---- another bucket in its place

  pub stay : (other : List T) → IsBucket key same fold (length buckets) (place_of fold (length buckets) k) other → AreBuckets key same fold (set buckets n other)
  stay other fits = stay_buckets key same fold itself exact buckets n other are there (subst (λ m. IsBucket key same fold (length buckets) m other) (sym is) fits)

  pub stay_some : (other : List T) → 0 < length (set buckets n other)
  stay_some other = subst (λ m. 0 < m) (sym (length-set buckets n other)) some

  pub found_after : (other : List T) → IsBucket key same fold (length buckets) (place_of fold (length buckets) k) other → (change : Option T) → ((q : K) → item_at key same q other ≡ cond (same k q) change (item_at key same q b)) → (q : K) → item_at key same q (all_items (set buckets n other)) ≡ cond (same k q) change (item_at key same q (all_items buckets))
  found_after other fits change changed q =
      ap (λ m. item_at key same q (all_items (set buckets m other))) is
      ∙ found_set key same fold itself exact buckets k other change are some fits (λ r. changed r ∙ ap (λ (c : List T). cond (same k r) change (item_at key same r c)) bucket_is) q

  sizes_after : (other : List T) (size : T → ℕ) → sum_by size (all_items (set buckets n other)) + sum_by size b ≡ sum_by size (all_items buckets) + sum_by size other
  sizes_after other size =
      ap (λ (c : List T). sum_by size (all_items (set buckets n other)) + sum_by size c) (read ∙ get_or_default buckets n b [] there)
      ∙ sizes_set size buckets n other there

  -- ---- without the items of the key

  pub fits_but : IsBucket key same fold (length buckets) (place_of fold (length buckets) k) (items_but key same k b)
  fits_but = bucket_but key same fold itself exact (length buckets) (place_of fold (length buckets) k) k b own

  pub dropped : (q : K) → item_at key same q (all_items (set buckets n (items_but key same k b))) ≡ cond (same k q) None (item_at key same q (all_items buckets))
  dropped = found_after (items_but key same k b) fits_but None (λ q. found_but key same itself exact k q b)

  pub sizes_dropped : (size : T → ℕ) → sum_by size (all_items (set buckets n (items_but key same k b))) + size_in size (item_at key same k (all_items buckets)) ≡ sum_by size (all_items buckets)
  sizes_dropped size =
      let whole = sizes_after (items_but key same k b) size in
      let part = size_but key same itself exact size k b own.differ in
      let found : size_in size (item_at key same k b) ≡ size_in size (item_at key same k (all_items buckets)) = ap (size_in size) found_at in
      omega arith

  -- ---- and with another item of it

  pub fits_put : (t : T) → key t ≡ k → IsBucket key same fold (length buckets) (place_of fold (length buckets) k) (items_but key same k b ++ t ∷ [])
  fits_put t named =
      subst (λ (c : K). IsBucket key same fold (length buckets) (place_of fold (length buckets) c) (items_but key same k b ++ t ∷ [])) named
      (bucket_push key same fold itself exact (length buckets) t (items_but key same k b)
      (subst (λ (c : K). IsBucket key same fold (length buckets) (place_of fold (length buckets) c) (items_but key same k b)) (sym named) fits_but)
      (ap (λ (c : K). item_at key same c (items_but key same k b)) named ∙ gone key same itself exact k b))

  pub put_there : (t : T) → key t ≡ k → (q : K) → item_at key same q (all_items (set buckets n (items_but key same k b ++ t ∷ []))) ≡ cond (same k q) (Some t) (item_at key same q (all_items buckets))
  put_there t named =
      found_after (items_but key same k b ++ t ∷ []) (fits_put t named) (Some t)
      (λ q. subst (λ (c : K). item_at key same q (items_but key same c b ++ t ∷ []) ≡ cond (same c q) (Some t) (item_at key same q b)) named (found_put key same itself exact t q b))

  pub sizes_put : (t : T) → key t ≡ k → (size : T → ℕ) → sum_by size (all_items (set buckets n (items_but key same k b ++ t ∷ []))) + size_in size (item_at key same k (all_items buckets)) ≡ sum_by size (all_items buckets) + size t
  sizes_put t named size =
      let whole = sizes_after (items_but key same k b ++ t ∷ []) size in
      let part = size_but key same itself exact size k b own.differ in
      let more = sum_by_push size (items_but key same k b) t in
      let found : size_in size (item_at key same k b) ≡ size_in size (item_at key same k (all_items buckets)) = ap (size_in size) found_at in
      omega arith

  -- ---- with one more item, where its key is not there yet

  fits_more : (t : T) → key t ≡ k → item_at key same k b ≡ None → IsBucket key same fold (length buckets) (place_of fold (length buckets) k) (b ++ t ∷ [])
  fits_more t named none =
      subst (λ (c : K). IsBucket key same fold (length buckets) (place_of fold (length buckets) c) (b ++ t ∷ [])) named
      (bucket_push key same fold itself exact (length buckets) t b
      (subst (λ (c : K). IsBucket key same fold (length buckets) (place_of fold (length buckets) c) b) (sym named) own)
      (ap (λ (c : K). item_at key same c b) named ∙ none))

  pub stay_more : (t : T) → key t ≡ k → item_at key same k (all_items buckets) ≡ None → AreBuckets key same fold (set buckets n (b ++ t ∷ []))
  stay_more t named none = stay (b ++ t ∷ []) (fits_more t named (found_at ∙ none))

  pub found_more : (t : T) → key t ≡ k → item_at key same k (all_items buckets) ≡ None → (q : K) → item_at key same q (all_items (set buckets n (b ++ t ∷ []))) ≡ cond (same k q) (Some t) (item_at key same q (all_items buckets))
  found_more t named none =
      found_after (b ++ t ∷ []) (fits_more t named (found_at ∙ none)) (Some t)
      (λ q. subst (λ (c : K). item_at key same q (b ++ t ∷ []) ≡ cond (same c q) (Some t) (item_at key same q b)) named
      (found_push key same itself exact t q b (ap (λ (c : K). item_at key same c b) named ∙ found_at ∙ none)))
