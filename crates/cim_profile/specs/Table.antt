-- Rows that are found by an identifier.
use Rattle.std.specs.Prelude.{ℕ, List, map, Bool, ◌==◌}
use Rattle.std.specs.List.{filter}
use Rattle.cim_profile.specs.declared.table.Row.{Row}

-- the rows with this key, in their order, and their values
abbrev pub has_key : {V : Type 0} → ℕ → Row V → Bool
has_key key row = row.key.number == key

abbrev pub rows_at : {V : Type 0} → List (Row V) → ℕ → List (Row V)
rows_at rows key = filter (has_key key) rows

abbrev pub values_at : {V : Type 0} → List (Row V) → ℕ → List V
values_at {V} rows key = map (λ (row : Row V). row.value) (rows_at rows key)
