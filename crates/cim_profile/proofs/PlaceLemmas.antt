-- Places of marks, as the rows of a table that name segments give them.
use Rattle.std.proofs.Common.{◌≡◌, ℕ, ◌+◌, ◌<◌, ◌≤◌, ◌==◌, List, ◌++◌, map, length, take, get_or, Bool, true, false, not, ◌&&◌, ◌||◌, refl, sym, ap, ◌∙◌}
use Rattle.std.specs.Prelude.{nat_eq}
use Rattle.std.specs.List.{filter, list_any}
use Rattle.std.proofs.lemmas.List.{map-id, take_all}
use Rattle.std.proofs.lemmas.List.Folds.{list_any-append, list_any_more}
use Rattle.std.proofs.lemmas.Bool.{and_right}
use Rattle.plain_laws.proofs.Tests.{any_and, any_map, any_map_filter, any_or, any_same, any_turned}
use Rattle.cim_words.specs.declared.identifier.Id.{Id}
use Rattle.cim_words.specs.declared.known_prop.KnownProp.{KnownProp}
use Rattle.cim_words.specs.declared.length.Length.{Length}
use Rattle.cim_words.specs.declared.statement.Statement.{Statement}
use Rattle.cim_model.specs.Values.{mm_of, number_of_id}
use Rattle.cim_profile.specs.Facts.{HoldsNaming}
use Rattle.cim_model.specs.Model.{naming}
use Rattle.cim_profile.specs.Places.{any_mark, is_at, is_other, place_at}
use Rattle.cim_model.specs.Profile.{share_one, shares_place}
use Rattle.cim_profile.specs.Table.{has_key, values_at}
use Rattle.cim_profile.specs.MarkKind.{mark_lengths, marks_of}
use Rattle.cim_profile.specs.declared.mark_kind.MarkKind.{MarkKind}
use Rattle.cim_profile.specs.declared.mark_kind.MarkKind.TheVariants.{Cut, Clamp}
use Rattle.cim_profile.specs.declared.marks.Place.{Place}
use Rattle.cim_profile.specs.declared.table.Row.{Row}

-- whether a mark passes a test at one of its lengths, if it is of a kind
abbrev pub passes_at : (kept : ℕ → Bool) (lengths : ℕ → List ℕ) → (ℕ → ℕ → Bool) → ℕ → Bool
passes_at kept lengths test y = kept y && list_any (λ n. test n y) (lengths y)

-- the same of the mark in a row, if it is of a segment
abbrev pub row_passes : (kept : ℕ → Bool) (lengths : ℕ → List ℕ) → ℕ → (ℕ → ℕ → Bool) → Row Id → Bool
row_passes kept lengths s test row = row.key.number == s && passes_at kept lengths test row.value.number

-- places hold the marks in rows, at all their lengths and nothing else
abbrev pub IsPlacing : (kept : ℕ → Bool) (lengths : ℕ → List ℕ) → List (Row Id) → List Place → Type 0
IsPlacing kept lengths rows places = (s : ℕ) (test : ℕ → ℕ → Bool) → list_any (is_at s test) places ≡ list_any (row_passes kept lengths s test) rows

-- what is read past the end of rows
abbrev pub no_row : Row Id
no_row = record { key = record { number = 0 }; value = record { number = 0 } }

or_nothing : (a b : Bool) → b ≡ false → a ≡ (a || b)
or_nothing true b h = refl
or_nothing false b h = sym h

both : (a b c : Bool) → b ≡ true → (a && c) ≡ (a && (b && c))
both a b c h = rw h refl

-- one mark at some lengths
here : (s : ℕ) (test : ℕ → ℕ → Bool) (segment mark : Id) (lengths : List Length) (spelled : List ℕ) → map mm_of lengths ≡ spelled
    → list_any (is_at s test) (map (place_at segment mark) lengths) ≡ (segment.number == s && list_any (λ n. test n mark.number) spelled)
here s test segment mark lengths spelled same =
    any_map (is_at s test) (place_at segment mark) lengths
    ∙ any_and (segment.number == s) (λ (l : Length). test l.mm mark.number) lengths
    ∙ ap (λ (b : Bool). segment.number == s && b) (sym (any_map (λ n. test n mark.number) mm_of lengths) ∙ ap (list_any (λ n. test n mark.number)) same)

-- one more row, whose mark is of another kind, or of this
pub placing_past : (kept : ℕ → Bool) (lengths : ℕ → List ℕ) (rows : List (Row Id)) (i : ℕ) (d : Row Id) (places : List Place)
    → i < length rows → kept (get_or rows i d).value.number ≡ false
    → IsPlacing kept lengths (take i rows) places → IsPlacing kept lengths (take (i + 1) rows) places
placing_past kept lengths rows i d places within other placing s test =
    let row : Row Id = get_or rows i d in
    let fails : passes_at kept lengths test row.value.number ≡ false = ap (λ (b : Bool). b && list_any (λ n. test n row.value.number) (lengths row.value.number)) other in
    placing s test
    ∙ or_nothing (list_any (row_passes kept lengths s test) (take i rows)) (row_passes kept lengths s test row) (and_right (row.key.number == s) _ fails)
    ∙ sym (list_any_more (row_passes kept lengths s test) rows i d within)

pub placing_more : (kept : ℕ → Bool) (lengths : ℕ → List ℕ) (rows : List (Row Id)) (i : ℕ) (d : Row Id) (places added : List Place) (own : List Length)
    → i < length rows → kept (get_or rows i d).value.number ≡ true → map mm_of own ≡ lengths (get_or rows i d).value.number
    → added ≡ places ++ map (place_at (get_or rows i d).key (get_or rows i d).value) own
    → IsPlacing kept lengths (take i rows) places → IsPlacing kept lengths (take (i + 1) rows) added
placing_more kept lengths rows i d places added own within is same more placing s test =
    let row : Row Id = get_or rows i d in
    ap (list_any (is_at s test)) more
    ∙ list_any-append (is_at s test) places (map (place_at row.key row.value) own)
    ∙ ap (λ (b : Bool). b || list_any (is_at s test) (map (place_at row.key row.value) own)) (placing s test)
    ∙ ap (λ (b : Bool). list_any (row_passes kept lengths s test) (take i rows) || b) (here s test row.key row.value own _ same ∙ both (row.key.number == s) _ _ is)
    ∙ sym (list_any_more (row_passes kept lengths s test) rows i d within)

-- the marks in all rows are those that name a segment and are of the kind
pub placing_all : (kept : ℕ → Bool) (lengths : ℕ → List ℕ) (k : KnownProp) (m : List Statement) (rows : List (Row Id)) (i : ℕ) (places : List Place)
    → length rows ≤ i → HoldsNaming k m rows → IsPlacing kept lengths (take i rows) places
    → (s : ℕ) (test : ℕ → ℕ → Bool) → list_any (is_at s test) places ≡ list_any (λ y. list_any (λ n. test n y) (lengths y)) (filter kept (naming m k s))
placing_all kept lengths k m rows i places all holds placing s test =
    let passes : ℕ → Bool = passes_at kept lengths test in
    placing s test
    ∙ ap (list_any (row_passes kept lengths s test)) (take_all i rows all)
    ∙ sym (any_map_filter (λ (id : Id). passes id.number) (λ (row : Row Id). row.value) (has_key s) rows)
    ∙ sym (any_map passes number_of_id (values_at rows s))
    ∙ ap (list_any passes) (holds s)
    ∙ sym (any_map_filter (λ y. list_any (λ n. test n y) (lengths y)) (λ (y : ℕ). y) kept (naming m k s))
    ∙ ap (list_any (λ y. list_any (λ n. test n y) (lengths y))) (map-id (filter kept (naming m k s)))

-- ---- a place of another mark at one of some lengths

one_other : (x : ℕ) (lengths own : List ℕ) (y : ℕ) → list_any (λ n. list_any (λ other. is_other n x other y) own) lengths ≡ (not (y == x) && share_one lengths own)
one_other x lengths own y =
    any_same _ (λ n. not (y == x) && list_any (nat_eq n) own) (λ n. any_and (not (y == x)) (nat_eq n) own) lengths
    ∙ any_and (not (y == x)) (λ n. list_any (nat_eq n) own) lengths

others : (m : List Statement) (k : MarkKind) (s x : ℕ) (lengths : List ℕ)
    → list_any (λ n. any_mark m k s (is_other n x)) lengths ≡ list_any (λ y. not (y == x) && share_one lengths (mark_lengths m k y)) (marks_of m k s)
others m k s x lengths =
    any_turned (λ n y. list_any (λ other. is_other n x other y) (mark_lengths m k y)) lengths (marks_of m k s)
    ∙ any_same _ _ (λ y. one_other x lengths (mark_lengths m k y) y) (marks_of m k s)

pub shared_by : (m : List Statement) (s x : ℕ) (lengths : List Length) (found : Length → Bool)
    → ((l : Length) → found l ≡ (any_mark m Cut s (is_other l.mm x) || any_mark m Clamp s (is_other l.mm x))) → list_any found lengths ≡ shares_place m x (map mm_of lengths) s
shared_by m s x lengths found is =
    any_same found (λ (l : Length). by Cut l.mm || by Clamp l.mm) is lengths
    ∙ sym (any_map (λ n. by Cut n || by Clamp n) mm_of lengths)
    ∙ any_or (by Cut) (by Clamp) (map mm_of lengths)
    ∙ rw (others m Cut s x (map mm_of lengths), others m Clamp s x (map mm_of lengths)) refl
  where
    by : MarkKind → ℕ → Bool
    by k n = any_mark m k s (is_other n x)
