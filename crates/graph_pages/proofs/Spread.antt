-- What is found among the items of all buckets.
use Rattle.std.proofs.Common.{◌≡◌, ◌≢◌, ℕ, zero, suc, ◌+◌, ◌<◌, Bool, true, false, cond, List, [], ◌∷◌, ◌++◌, map, find, length, get_or, set, Option, None, Some, refl, sym, ap, ◌∙◌, subst, arith, inl, inr}
use Rattle.std.specs.List.{AllByRecursion, IsDistinct, sum_by}
use Rattle.std.specs.Option.{option_or}
use Rattle.std.proofs.Math.Nat.{mod-lt}
use Rattle.std.proofs.lemmas.Bool.Decides.{eqb_tells}
use Rattle.std.proofs.lemmas.List.{map-append, get_or-set_same, get_or-set_other, length-set}
use Rattle.std.proofs.lemmas.List.Folds.{find-append}
use Rattle.std.proofs.lemmas.List.Sums.{sum_by-append, sum_by-cons, sum_by-set}
use Rattle.graph_pages.specs.Buckets.{AreBuckets, IsBucket, all_items, place_of}
use Rattle.graph_pages.specs.Keyed.{item_at, items_but}
use Rattle.graph_pages.proofs.Items.{all_but, all_push, differ_but, differ_push, not_true}

-- ---- a test that passes nothing outside one bucket

module _ {T : Type 0} (p : T → Bool) where
  nowhere : (buckets : List (List T)) → ((i : ℕ) → i < length buckets → find p (get_or buckets i []) ≡ None) → find p (all_items buckets) ≡ None
  nowhere [] none = refl
  nowhere (b ∷ bs) none =
      find-append p b (all_items bs)
      ∙ ap (λ (o : Option T). option_or o (find p (all_items bs))) (none zero (grind arith))
      ∙ nowhere bs (λ i within. none (suc i) (grind arith))

  or_none : (o : Option T) → option_or o None ≡ o
  or_none None = refl
  or_none (Some t) = refl

  in_one : (buckets : List (List T)) (n : ℕ) → n < length buckets → ((i : ℕ) → i < length buckets → i ≢ n → find p (get_or buckets i []) ≡ None) → find p (all_items buckets) ≡ find p (get_or buckets n [])
  in_one [] n within none = absurd (grind arith)
  in_one (b ∷ bs) zero within none =
      find-append p b (all_items bs)
      ∙ ap (option_or (find p b)) (nowhere bs (λ i inside. none (suc i) (grind arith) (λ e. omega arith)))
      ∙ or_none (find p b)
  in_one (b ∷ bs) (suc n) within none =
      find-append p b (all_items bs)
      ∙ ap (λ (o : Option T). option_or o (find p (all_items bs))) (none zero (grind arith) (λ e. omega arith))
      ∙ in_one bs n (grind arith) (λ i inside other. none (suc i) (grind arith) (λ e. other (omega arith)))

-- ---- sizes

sizes : {T : Type 0} (size : T → ℕ) (buckets : List (List T)) → sum_by size (all_items buckets) ≡ sum_by (sum_by size) buckets
sizes size [] = refl
sizes size (b ∷ bs) = sum_by-append size b (all_items bs) ∙ ap (λ n. sum_by size b + n) (sizes size bs) ∙ sym (sum_by-cons (sum_by size) b bs)

pub sizes_set : {T : Type 0} (size : T → ℕ) (buckets : List (List T)) (n : ℕ) (b : List T) → n < length buckets → sum_by size (all_items (set buckets n b)) + sum_by size (get_or buckets n []) ≡ sum_by size (all_items buckets) + sum_by size b
sizes_set size buckets n b within =
    let before = sizes size buckets in
    let after = sizes size (set buckets n b) in
    let changed = sum_by-set (sum_by size) buckets n b [] within in
    omega arith

-- ---- different keys

module _ {K : Type 0} (same : K → K → Bool) where
  apart_both : (x : K) (xs ys : List K) → AllByRecursion (λ y. same x y ≡ false) xs → AllByRecursion (λ y. same x y ≡ false) ys → AllByRecursion (λ y. same x y ≡ false) (xs ++ ys)
  apart_both x [] ys here there = there
  apart_both x (z ∷ xs) ys here there = (here.0, apart_both x xs ys here.1 there)

  differ_both : (xs ys : List K) → IsDistinct same xs → IsDistinct same ys → AllByRecursion (λ x. AllByRecursion (λ y. same x y ≡ false) ys) xs → IsDistinct same (xs ++ ys)
  unfolding IsDistinct
  differ_both [] ys one two apart = two
  differ_both (x ∷ xs) ys one two apart = (apart_both x xs ys one.0 apart.0, differ_both xs ys one.1 two apart.1)

module _ {T K : Type 0} (key : T → K) (same : K → K → Bool) (fold : K → ℕ) (itself : (k : K) → same k k ≡ true) (exact : (a b : K) → same a b ≡ true → a ≡ b) where
  -- an item of another place is of another key
  elsewhere : (count place : ℕ) (k : K) (b : List T) → AllByRecursion (λ item. place_of fold count (key item) ≡ place) b → (place ≡ place_of fold count k → ⊥) → item_at key same k b ≡ None
  elsewhere count place k [] belong other = refl
  elsewhere count place k (t ∷ ts) belong other =
      ap (λ c. cond c (Some t) (item_at key same k ts)) (not_true (same (key t) k) (λ is. other (sym belong.0 ∙ ap (place_of fold count) (exact (key t) k is))))
      ∙ elsewhere count place k ts belong.1 other

  -- an item is found in the bucket of its key, or nowhere
  pub found_in : (buckets : List (List T)) (k : K) → AreBuckets key same fold buckets → 0 < length buckets → item_at key same k (all_items buckets) ≡ item_at key same k (get_or buckets (place_of fold (length buckets) k) [])
  found_in buckets k are some =
      in_one (λ (item : T). same (key item) k) buckets (place_of fold (length buckets) k) (mod-lt (fold k) some)
      (λ i within other. elsewhere (length buckets) i k (get_or buckets i []) (are i within).belong other)

  -- ---- a bucket gives way to another

  pub stay_buckets : (buckets : List (List T)) (n : ℕ) (b : List T) → AreBuckets key same fold buckets → n < length buckets → IsBucket key same fold (length buckets) n b → AreBuckets key same fold (set buckets n b)
  stay_buckets buckets n b are there is i within =
      let long : length (set buckets n b) ≡ length buckets = length-set buckets n b in
      let inside : i < length buckets = omega arith in
      let stays : IsBucket key same fold (length buckets) i (get_or (set buckets n b) i []) = elim (eqb_tells i n) [
        | inl (_, e) ↦ subst (λ m. IsBucket key same fold (length buckets) m (get_or (set buckets n b) m [])) (sym e) (subst (IsBucket key same fold (length buckets) n) (sym (get_or-set_same buckets n b [] there)) is)
        | inr (_, e) ↦ subst (IsBucket key same fold (length buckets) i) (sym (get_or-set_other buckets n i b [] e)) (are i inside)
      ] in
      subst (λ m. IsBucket key same fold m i (get_or (set buckets n b) i [])) (sym long) stays

  found_other : (buckets : List (List T)) (k q : K) (b : List T) (change : Option T) → AreBuckets key same fold buckets → 0 < length buckets → (place_of fold (length buckets) q ≡ place_of fold (length buckets) k → ⊥)
      → item_at key same q (get_or (set buckets (place_of fold (length buckets) k) b) (place_of fold (length buckets) q) []) ≡ cond (same k q) change (item_at key same q (all_items buckets))
  found_other buckets k q b change are some other =
      ap (item_at key same q) (get_or-set_other buckets (place_of fold (length buckets) k) (place_of fold (length buckets) q) b [] other)
      ∙ sym (found_in buckets q are some)
      ∙ ap (λ c. cond c change (item_at key same q (all_items buckets))) (sym (not_true (same k q) (λ is. other (ap (place_of fold (length buckets)) (sym (exact k q is))))))

  found_here : (buckets : List (List T)) (k q : K) (b : List T) (change : Option T) → AreBuckets key same fold buckets → 0 < length buckets → place_of fold (length buckets) q ≡ place_of fold (length buckets) k
      → item_at key same q b ≡ cond (same k q) change (item_at key same q (get_or buckets (place_of fold (length buckets) k) []))
      → item_at key same q (get_or (set buckets (place_of fold (length buckets) k) b) (place_of fold (length buckets) q) []) ≡ cond (same k q) change (item_at key same q (all_items buckets))
  found_here buckets k q b change are some e changed =
      ap (λ n. item_at key same q (get_or (set buckets (place_of fold (length buckets) k) b) n [])) e
      ∙ ap (item_at key same q) (get_or-set_same buckets (place_of fold (length buckets) k) b [] (mod-lt (fold k) some))
      ∙ changed
      ∙ ap (cond (same k q) change) (ap (λ n. item_at key same q (get_or buckets n [])) (sym e) ∙ sym (found_in buckets q are some))

  -- what is changed in the bucket of a key is changed in all of them, and nothing else is
  pub found_set : (buckets : List (List T)) (k : K) (b : List T) (change : Option T) → AreBuckets key same fold buckets → 0 < length buckets → IsBucket key same fold (length buckets) (place_of fold (length buckets) k) b
      → ((q : K) → item_at key same q b ≡ cond (same k q) change (item_at key same q (get_or buckets (place_of fold (length buckets) k) [])))
      → (q : K) → item_at key same q (all_items (set buckets (place_of fold (length buckets) k) b)) ≡ cond (same k q) change (item_at key same q (all_items buckets))
  found_set buckets k b change are some is changed q =
      let n = place_of fold (length buckets) k in
      let long : length (set buckets n b) ≡ length buckets = length-set buckets n b in
      let now : item_at key same q (get_or (set buckets n b) (place_of fold (length buckets) q) []) ≡ cond (same k q) change (item_at key same q (all_items buckets)) = elim (eqb_tells (place_of fold (length buckets) q) n) [
        | inl (_, e) ↦ found_here buckets k q b change are some e (changed q)
        | inr (_, e) ↦ found_other buckets k q b change are some e
      ] in
      found_in (set buckets n b) q (stay_buckets buckets n b are (mod-lt (fold k) some) is) (subst (λ m. 0 < m) (sym long) some)
      ∙ ap (λ m. item_at key same q (get_or (set buckets n b) (place_of fold m q) [])) long
      ∙ now

  -- ---- a bucket without a key, and with one more item

  pub bucket_but : (count place : ℕ) (k : K) (b : List T) → IsBucket key same fold count place b → IsBucket key same fold count place (items_but key same k b)
  bucket_but count place k b is = record { belong = all_but key same itself exact (λ (item : T). place_of fold count (key item) ≡ place) k b is.belong; differ = differ_but key same itself exact k b is.differ }

  pub bucket_push : (count : ℕ) (t : T) (b : List T) → IsBucket key same fold count (place_of fold count (key t)) b → item_at key same (key t) b ≡ None → IsBucket key same fold count (place_of fold count (key t)) (b ++ t ∷ [])
  bucket_push count t b is none = record { belong = all_push key same itself exact (λ (item : T). place_of fold count (key item) ≡ place_of fold count (key t)) t b is.belong refl; differ = differ_push key same itself exact t b is.differ none }

  -- ---- all items are of different keys

  shifted : (count start : ℕ) (b : List T) (bs : List (List T)) → ((i : ℕ) → i < length (b ∷ bs) → IsBucket key same fold count (start + i) (get_or (b ∷ bs) i [])) → (i : ℕ) → i < length bs → IsBucket key same fold count (suc start + i) (get_or bs i [])
  shifted count start b bs are i within =
      let e : start + suc i ≡ suc start + i = omega arith in
      subst (λ m. IsBucket key same fold count m (get_or bs i [])) e (are (suc i) (grind arith))

  all_both : (P : T → Type 0) (xs ys : List T) → AllByRecursion P xs → AllByRecursion P ys → AllByRecursion P (xs ++ ys)
  all_both P [] ys one two = two
  all_both P (x ∷ xs) ys one two = (one.0, all_both P xs ys one.1 two)

  past : (count n place : ℕ) (xs : List T) → n < place → AllByRecursion (λ item. place_of fold count (key item) ≡ place) xs → AllByRecursion (λ item. n < place_of fold count (key item)) xs
  past count n place [] less belong = tt
  past count n place (x ∷ xs) less belong = (subst (λ m. n < m) (sym belong.0) less, past count n place xs less belong.1)

  later : (count n start : ℕ) (buckets : List (List T)) → n < start → ((i : ℕ) → i < length buckets → IsBucket key same fold count (start + i) (get_or buckets i [])) → AllByRecursion (λ item. n < place_of fold count (key item)) (all_items buckets)
  later count n start [] less are = tt
  later count n start (b ∷ bs) less are =
      let first : IsBucket key same fold count (start + zero) b = are zero (grind arith) in
      all_both (λ (item : T). n < place_of fold count (key item)) b (all_items bs) (past count n (start + zero) b (omega arith) first.belong)
      (later count n (suc start) bs (omega arith) (shifted count start b bs are))

  apart_later : (count n : ℕ) (x : T) (ys : List T) → place_of fold count (key x) ≡ n → AllByRecursion (λ item. n < place_of fold count (key item)) ys → AllByRecursion (λ k. same (key x) k ≡ false) (map key ys)
  apart_later count n x [] is behind = tt
  apart_later count n x (y ∷ ys) is behind =
      (not_true (same (key x) (key y)) (λ one. let e : place_of fold count (key x) ≡ place_of fold count (key y) = ap (place_of fold count) (exact (key x) (key y) one) in let less = behind.0 in omega arith), apart_later count n x ys is behind.1)

  all_apart : (count n : ℕ) (xs ys : List T) → AllByRecursion (λ item. place_of fold count (key item) ≡ n) xs → AllByRecursion (λ item. n < place_of fold count (key item)) ys → AllByRecursion (λ x. AllByRecursion (λ k. same x k ≡ false) (map key ys)) (map key xs)
  all_apart count n [] ys belong behind = tt
  all_apart count n (x ∷ xs) ys belong behind = (apart_later count n x ys belong.0 behind, all_apart count n xs ys belong.1 behind)

  differ_from : (count start : ℕ) (buckets : List (List T)) → ((i : ℕ) → i < length buckets → IsBucket key same fold count (start + i) (get_or buckets i [])) → IsDistinct same (map key (all_items buckets))
  unfolding IsDistinct
  differ_from count start [] are = tt
  differ_from count start (b ∷ bs) are =
      let first : IsBucket key same fold count (start + zero) b = are zero (grind arith) in
      subst (IsDistinct same) (sym (map-append key b (all_items bs)))
      (differ_both same (map key b) (map key (all_items bs)) first.differ (differ_from count (suc start) bs (shifted count start b bs are))
      (all_apart count (start + zero) b (all_items bs) first.belong (later count (start + zero) (suc start) bs (omega arith) (shifted count start b bs are))))

  pub all_differ : (buckets : List (List T)) → AreBuckets key same fold buckets → IsDistinct same (map key (all_items buckets))
  all_differ buckets are =
      differ_from (length buckets) 0 buckets (λ i within.
      let e : i ≡ 0 + i = omega arith in
      subst (λ m. IsBucket key same fold (length buckets) m (get_or buckets i [])) e (are i within))
