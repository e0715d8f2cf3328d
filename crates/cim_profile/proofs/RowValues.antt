-- What is read from the values of rows, and what is there among it.
use Rattle.std.proofs.Common.{◌≡◌, List, [], ◌∷◌, map, Bool, ◌||◌, Option, Some, None, refl, ap, ◌∙◌, ℕ, suc, ◌==◌, ◌++◌, length, true, false, cond, option_map, sym, arith}
use Rattle.std.specs.List.{cons_option, filter, filter_map, list_any}
use Rattle.std.proofs.lemmas.Bool.{false≢true}
use Rattle.std.proofs.lemmas.Bool.Decides.{nat_tests}
use Rattle.cim_profile.specs.declared.table.Row.{Row}
use Rattle.cim_model.specs.Stated.{or_zero}
use Rattle.cim_model.specs.Model.{is_empty}
use Rattle.cim_model.specs.Values.{as_length, length_said, mm_of, number_of_id}
use Rattle.cim_words.specs.declared.object.Object.{Object}
use Rattle.cim_words.specs.declared.length.Length.{Length}
use Rattle.cim_words.specs.declared.identifier.Id.{Id}
use Rattle.plain_laws.proofs.Tests.{any_map}
use Rattle.cim_profile.specs.Facts.{is_present_and, length_read, present}

-- a test of what is there
pub any_there : {Y : Type 0} (test : Y → Bool) (values : List (Option Y)) → list_any test (present values) ≡ list_any (is_present_and test) values
any_there test [] = refl
any_there test (None ∷ values) = any_there test values
any_there test (Some y ∷ values) = ap (λ (r : Bool). test y || r) (any_there test values)

pub any_present : {X Y : Type 0} (test : Y → Bool) (f : X → Option Y) (xs : List X) → list_any test (present (map f xs)) ≡ list_any (λ x. is_present_and test (f x)) xs
any_present test f xs = any_there test (map f xs) ∙ any_map (is_present_and test) f xs

-- what is there among what is read of the elements
pub filter_map_present : {X Y : Type 0} (h : X → Option Y) (xs : List X) → filter_map h xs ≡ present (map h xs)
filter_map_present h [] = refl
filter_map_present h (x ∷ xs) = ap (cons_option (h x)) (filter_map_present h xs)

-- ---- the values of rows

seen_cons : {V W : Type 0} (sees : V → W) (o : Option V) (values : List V) (others : List W) → map sees values ≡ others → map sees (cons_option o values) ≡ cons_option (option_map sees o) others
seen_cons sees None values others h = h
seen_cons sees (Some v) values others h = ap (λ (rest : List _). sees v ∷ rest) h

-- what is there, seen in some way
seen_present : {V W : Type 0} (sees : V → W) (values : List (Option V)) → map sees (present values) ≡ present (map (option_map sees) values)
seen_present sees [] = refl
seen_present sees (o ∷ values) = seen_cons sees o (present values) (present (map (option_map sees) values)) (seen_present sees values)

-- values as they are read of objects have the same there
pub values_read : {O V : Type 0} (reads : O → Option V) (values : List (Option V)) (objects : List O) → values ≡ map reads objects → present values ≡ filter_map reads objects
values_read reads values objects same = ap present same ∙ sym (filter_map_present reads objects)

mm_there : (o : Option ℕ) → option_map mm_of (option_map as_length o) ≡ o
mm_there None = refl
mm_there (Some n) = refl

mm_read : (objects : List Object) → map (option_map mm_of) (map length_read objects) ≡ map length_said objects
mm_read [] = refl
mm_read (o ∷ objects) = rw (mm_there (length_said o), mm_read objects) refl

pub lengths_read : (values : List (Option Length)) (objects : List Object) → values ≡ map length_read objects → map mm_of (present values) ≡ filter_map length_said objects
lengths_read values objects same = seen_present mm_of values ∙ ap (λ (those : List (Option Length)). present (map (option_map mm_of) those)) same ∙ ap present (mm_read objects) ∙ sym (filter_map_present length_said objects)

not_zero : (n : ℕ) → (suc n == 0) ≡ false
not_zero n = grind (arith, nat_tests)

-- what is read of some rows, where 0 is added if there are none
pub zero_read : (rows : List (Row (Option Length))) (objects : List Object) (lengths : List Length) → lengths ≡ present (map (λ (row : Row (Option Length)). row.value) rows) → map (λ (row : Row (Option Length)). row.value) rows ≡ map length_read objects
    → (none : Bool) → (length rows == 0) ≡ none → map mm_of (cond none (lengths ++ as_length 0 ∷ []) lengths) ≡ or_zero objects
zero_read [] [] lengths are same none is = rw (← is, are) refl
zero_read [] (o ∷ objects) lengths are same none is = absurd cc
zero_read (row ∷ rows) [] lengths are same none is = absurd cc
zero_read (row ∷ rows) (o ∷ objects) lengths are same none is = rw (← is, not_zero (length rows), are) (lengths_read (map (λ (row : Row (Option Length)). row.value) (row ∷ rows)) (o ∷ objects) same)

one_id : (id : Id) (kept : List Id) (names : List ℕ) → map number_of_id kept ≡ names → (b : Bool) → map number_of_id (cond b (id ∷ kept) kept) ≡ cond b (id.number ∷ names) names
one_id id kept names same true = ap (λ (rest : List ℕ). id.number ∷ rest) same
one_id id kept names same false = same

kept_numbers : (p : ℕ → Bool) (ids : List Id) → map number_of_id (filter (λ (id : Id). p id.number) ids) ≡ filter p (map number_of_id ids)
kept_numbers p [] = refl
kept_numbers p (id ∷ ids) = one_id id (filter (λ (id : Id). p id.number) ids) (filter p (map number_of_id ids)) (kept_numbers p ids) (p id.number)

-- the numbers of the identifiers in rows, of those that pass a test
pub names_passing : (p : ℕ → Bool) (rows : List (Row Id)) (names : List ℕ) → map number_of_id (map (λ (row : Row Id). row.value) rows) ≡ names
    → map number_of_id (filter (λ (id : Id). p id.number) (map (λ (row : Row Id). row.value) rows)) ≡ filter p names
names_passing p rows names same = kept_numbers p (map (λ (row : Row Id). row.value) rows) ∙ ap (filter p) same

-- where there are rows, there are values
pub some_values : {X Y : Type 0} (f : X → Y) (xs : List X) → (length xs == 0) ≡ false → is_empty (map f xs) ≡ false
some_values f [] some = absurd (false≢true (sym some))
some_values f (x ∷ xs) some = refl
