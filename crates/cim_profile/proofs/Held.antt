-- What the rows of statements hold.
use Rattle.std.proofs.Common.{◌≡◌, ℕ, ◌==◌, List, [], ◌∷◌, map, Bool, true, false, ◌&&◌, cond, None, option_map, refl, ap, ◌∙◌}
use Rattle.std.specs.List.{filter, filter_map, cons_option}
use Rattle.cim_words.specs.declared.identifier.Id.{Id}
use Rattle.cim_words.specs.declared.known_prop.KnownProp.{KnownProp}
use Rattle.cim_words.specs.declared.object.Object.{Object}
use Rattle.cim_words.specs.declared.object.Object.TheVariants as object
use Rattle.cim_words.specs.declared.statement.Statement.{Statement}
use Rattle.cim_model.specs.Model.{id_said, is_about, is_by, is_id, is_naming, said_in}
use Rattle.cim_model.specs.Values.{as_id, number_of_id}
use Rattle.cim_profile.specs.Facts.{Holds, HoldsNaming, naming_row, row_read}
use Rattle.cim_profile.specs.Table.{rows_at, values_at}
use Rattle.cim_profile.specs.declared.table.Row.{Row}

-- one more statement, by the property or not, and of the subject or not
one_held : {V : Type 0} (reads : Object → V) (k : KnownProp) (x : ℕ) (s : Statement) (kept own : List Statement) → values_at (map (row_read reads) kept) x ≡ map reads (said_in own k)
    → (by about : Bool) → is_by k s ≡ by → is_about x s ≡ about → values_at (map (row_read reads) (cond by (s ∷ kept) kept)) x ≡ map reads (said_in (cond about (s ∷ own) own) k)
one_held reads k x s kept own same true true by is = rw (is, by) (ap (λ (rest : List _). reads s.object ∷ rest) same)
one_held reads k x s kept own same true false by is = rw is same
one_held reads k x s kept own same false true by is = rw by same
one_held reads k x s kept own same false false by is = same

-- the rows of the statements by a property hold what these say
rows_hold : {V : Type 0} (reads : Object → V) (k : KnownProp) (m : List Statement) → Holds reads k m (map (row_read reads) (filter (is_by k) m))
rows_hold reads k [] x = refl
rows_hold reads k (s ∷ m) x = one_held reads k x s (filter (is_by k) m) (filter (is_about x) m) (rows_hold reads k m x) (is_by k s) (is_about x s) refl refl

-- one more row and its statement, of what is looked for or not
one_found : (row : Row Id) (s : Statement) (kept : List (Row Id)) (own : List Statement) → row.value.number ≡ s.subject.number → map number_of_id (map (λ (row : Row Id). row.value) kept) ≡ map (λ (s : Statement). s.subject.number) own
    → (b : Bool) → map number_of_id (map (λ (row : Row Id). row.value) (cond b (row ∷ kept) kept)) ≡ map (λ (s : Statement). s.subject.number) (cond b (s ∷ own) own)
one_found row s kept own is same true = rw (is, same) refl
one_found row s kept own is same false = same

-- one more statement, by the property or not, and what it says
one_name : (x : ℕ) (s : Statement) (rows : List (Row Id)) (own : List Statement) → map number_of_id (values_at rows x) ≡ map (λ (s : Statement). s.subject.number) own
    → (by : Bool) (o : Object) → map number_of_id (values_at (cons_option (option_map (λ (n : ℕ). record { key = as_id n; value = s.subject }) (cond by (id_said o) None)) rows) x) ≡ map (λ (s : Statement). s.subject.number) (cond (by && is_id x o) (s ∷ own) own)
one_name x s rows own same false o = same
one_name x s rows own same true (object.Id id) = one_found (record { key = id; value = s.subject }) s (rows_at rows x) own refl same (id.number == x)
one_name x s rows own same true (object.Name text) = same
one_name x s rows own same true (object.Text text) = same

-- the rows of those that name others hold the subjects that name them
rows_name : (k : KnownProp) (m : List Statement) → HoldsNaming k m (filter_map (naming_row k) m)
rows_name k [] x = refl
rows_name k (s ∷ m) x = one_name x s (filter_map (naming_row k) m) (filter (is_naming k x) m) (rows_name k m x) (is_by k s) s.object

-- what a table holds, where it keeps the rows of each key
pub holds_kept : {V : Type 0} (reads : Object → V) (k : KnownProp) (m : List Statement) (rows table : List (Row V)) → rows ≡ map (row_read reads) (filter (is_by k) m) → ((x : ℕ) → rows_at table x ≡ rows_at rows x) → Holds reads k m table
holds_kept {V} reads k m rows table are kept x = ap (map (λ (row : Row V). row.value)) (kept x ∙ ap (λ (those : List (Row V)). rows_at those x) are) ∙ rows_hold reads k m x

pub names_kept : (k : KnownProp) (m : List Statement) (rows table : List (Row Id)) → rows ≡ filter_map (naming_row k) m → ((x : ℕ) → rows_at table x ≡ rows_at rows x) → HoldsNaming k m table
names_kept k m rows table are kept x = ap (λ (found : List (Row Id)). map number_of_id (map (λ (row : Row Id). row.value) found)) (kept x ∙ ap (λ (those : List (Row Id)). rows_at those x) are) ∙ rows_name k m x
