-- How a list of buckets holds items: the fold of an item's key names its bucket. Of this project.
use Rattle.std.specs.Prelude.{◌≡◌, ◌<◌, ◌%◌, ℕ, Bool, List, [], map, length, slice_index_or}
use Rattle.std.specs.List.{AllByRecursion, IsDistinct, flat_map}

-- the items of all buckets
abbrev pub all_items : {T : Type 0} → List (List T) → List T
all_items buckets = flat_map (λ bucket. bucket) buckets

-- the bucket of a key, among so many
abbrev pub place_of : {K : Type 0} → (K → ℕ) → ℕ → K → ℕ
place_of fold count k = fold k % count

module _ {T K : Type 0} (key : T → K) (same : K → K → Bool) (fold : K → ℕ) where
  -- The items of a bucket belong there, and each is of another key.
  pub record IsBucket (count place : ℕ) (bucket : List T) : Type 0 where
    pub belong : AllByRecursion (λ item. place_of fold count (key item) ≡ place) bucket
    pub differ : IsDistinct same (map key bucket)

  abbrev pub AreBuckets : List (List T) → Type 0
  AreBuckets buckets = (place : ℕ) → place < length buckets → IsBucket (length buckets) place (slice_index_or buckets place [])
