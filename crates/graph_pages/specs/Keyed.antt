-- Items that stand under keys of their own, of this project.
use Rattle.std.specs.Prelude.{ℕ, Bool, not, List, Option, find, option_map, unwrap_or}
use Rattle.std.specs.List.{filter}

module _ {T K : Type 0} (key : T → K) (same : K → K → Bool) where
  -- the first item of a key, and all items but those of a key
  abbrev pub item_at : K → List T → Option T
  item_at k items = find (λ item. same (key item) k) items

  abbrev pub items_but : K → List T → List T
  items_but k items = filter (λ item. not (same (key item) k)) items

-- the size of an item that may be missing: a missing one has none
abbrev pub size_in : {T : Type 0} → (T → ℕ) → Option T → ℕ
size_in size item = unwrap_or (option_map size item) 0
