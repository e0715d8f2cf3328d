-- Rows of types, of which those that repeat the row before them are dropped.
use Rattle.std.proofs.Common.{◌≡◌, ℕ, List, [], ◌∷◌, map, Bool, true, false, not, cond, ◌&&◌, ◌||◌, ◌==◌, Option, Some, None, refl, sym, ap, ◌∙◌}
use Rattle.std.specs.List.{filter, dedup, list_any}
use Rattle.std.specs.Option.{option_eq}
use Rattle.std.proofs.lemmas.Bool.{and_parts, eqb-true}
use Rattle.cim_model.proofs.FaultlessSubjects.{empty_map}
use Rattle.plain_laws.proofs.Tests.{any_dedup, any_map_filter}
use Rattle.cim_words.specs.declared.class.Class.{Class}
use Rattle.cim_words.specs.Properties as property
use Rattle.cim_words.specs.declared.statement.Statement.{Statement}
use Rattle.cim_profile.specs.Facts.{Holds, HoldsTypes, is_present_and, present, row_read}
use Rattle.cim_model.specs.Model.{class_named, is_by, is_empty, is_of, said}
use Rattle.cim_profile.specs.Table.{has_key, rows_at, values_at}
use Rattle.cim_profile.specs.declared.table.Row.{Row}
use Rattle.cim_profile.proofs.Held.{holds_kept}
use Rattle.cim_profile.proofs.RowValues.{any_there, filter_map_present}

-- ---- values of rows, as tests of the rows

empty_one : {X Y : Type 0} (f : X → Y) (x : X) (kept : List X) (b : Bool) → is_empty (map f (cond b (x ∷ kept) kept)) ≡ (not b && is_empty (map f kept))
empty_one f x kept true = refl
empty_one f x kept false = refl

none_of : (a r : Bool) → (not a && not r) ≡ not (a || r)
none_of true r = refl
none_of false r = refl

empty_read : {X Y : Type 0} (f : X → Y) (p : X → Bool) (xs : List X) → is_empty (map f (filter p xs)) ≡ not (list_any p xs)
empty_read f p [] = refl
empty_read f p (x ∷ xs) = empty_one f x (filter p xs) (p x) ∙ ap (λ (r : Bool). not (p x) && r) (empty_read f p xs) ∙ none_of (p x) (list_any p xs)

any_value : (test : Class → Bool) (rows : List (Row (Option Class))) (x : ℕ) → list_any test (present (values_at rows x)) ≡ list_any (λ (row : Row (Option Class)). has_key x row && is_present_and test row.value) rows
any_value test rows x = any_there test (values_at rows x) ∙ any_map_filter (is_present_and test) (λ (row : Row (Option Class)). row.value) (has_key x) rows

pub any_type : (test : Class → Bool) (values : List (Option Class)) (m : List Statement) (x : ℕ) → values ≡ map class_named (said m x property.rdf_type) → list_any test (present values) ≡ is_of m test x
any_type test values m x same = ap (λ (those : List (Option Class)). list_any test (present those)) same ∙ ap (list_any test) (sym (filter_map_present class_named (said m x property.rdf_type)))

-- what the table of the rows holds, without the repeated ones
pub types_kept : (same : Row (Option Class) → Row (Option Class) → Bool) → ((one other : Row (Option Class)) → same one other ≡ true → one ≡ other) → (m : List Statement) (rows kept table : List (Row (Option Class)))
    → rows ≡ map (row_read class_named) (filter (is_by property.rdf_type) m) → kept ≡ dedup same rows → ((x : ℕ) → rows_at table x ≡ rows_at kept x) → HoldsTypes m table
types_kept same equal m rows kept table those are found x = record {
  any = λ test. ap (list_any test) (ap present here) ∙ any_value test kept x ∙ ap (list_any (λ (row : Row (Option Class)). has_key x row && is_present_and test row.value)) are
      ∙ any_dedup same equal _ rows ∙ sym (any_value test rows x) ∙ any_type test (values_at rows x) m x (whole x);
  empty = ap is_empty here ∙ empty_read _ (has_key x) kept ∙ ap (λ (list : List (Row (Option Class))). not (list_any (has_key x) list)) are
      ∙ ap not (any_dedup same equal (has_key x) rows) ∙ sym (empty_read _ (has_key x) rows) ∙ ap is_empty (whole x) ∙ empty_map class_named (said m x property.rdf_type);
}
  where
    here : values_at table x ≡ values_at kept x
    here = ap (map (λ (row : Row (Option Class)). row.value)) (found x)

    whole : Holds class_named property.rdf_type m rows
    whole = holds_kept class_named property.rdf_type m rows rows those (λ y. refl)

-- ---- equality of rows

one_option : {X : Type 0} (same : X → X → Bool) → ((x y : X) → same x y ≡ true → x ≡ y) → (v w : Option X) → option_eq same v w ≡ true → v ≡ w
one_option same equal None None h = refl
one_option same equal None (Some y) h = absurd cc
one_option same equal (Some x) None h = absurd cc
one_option same equal (Some x) (Some y) h = ap (λ (z : _). Some z) (equal x y h)

abbrev row_of : {X : Type 0} → ℕ → X → Row X
row_of n value = record { key = record { number = n }; value = value }

one_row : {X : Type 0} (m n : ℕ) (v w : X) → m ≡ n → v ≡ w → row_of m v ≡ row_of n w
one_row m n v w number value = rw (number, value) refl

-- rows with one number and one value
pub equal_rows : {X : Type 0} (same : X → X → Bool) → ((x y : X) → same x y ≡ true → x ≡ y) → (one other : Row (Option X)) → (one.key.number == other.key.number && option_eq same one.value other.value) ≡ true → one ≡ other
equal_rows same equal one other h =
    let parts = and_parts _ _ h in
    one_row one.key.number other.key.number one.value other.value (eqb-true _ _ parts.0) (one_option same equal one.value other.value parts.1)
