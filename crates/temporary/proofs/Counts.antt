-- How many marks a segment has, and how many terminals stand at a place, counted item by item.
use Rattle.std.proofs.Common.{◌≡◌, ℕ, suc, ◌+◌, ◌≤◌, ◌-◌, List, [], ◌∷◌, map, length, Bool, true, false, cond, nat_le, Option, Some, None, is_some, option_map, refl, ap, ◌∙◌, arith, length-append}
use Rattle.std.specs.List.{cons_option, filter, filter_map, flat_map, list_any}
use Rattle.std.proofs.lemmas.Bool.Decides.{nat_tests}
use Rattle.std.proofs.lemmas.List.{length-map}
use Rattle.cim_words.specs.declared.identifier.Id.{Id}
use Rattle.cim_words.specs.declared.statement.Statement.{Statement}
use Rattle.cim_model.specs.Live.{owned, real, real_terms_at, terms_at}
use Rattle.cim_model.specs.Marks.{is_item_on, item_mark, item_marks, marks_of, marks_on}
use Rattle.cim_model.specs.Network.{owner_of}
use Rattle.cim_model.specs.Values.{as_id}
use Rattle.room_words.specs.Items.{as_list, item_terms_at, side_one, side_two, term_in}
use Rattle.room_words.specs.declared.anchor.Anchor.{Anchor}
use Rattle.room_words.specs.declared.items.TempItem.{TempItem}
use Rattle.room_words.specs.declared.items.TempItem.TheVariants as item
use Rattle.room_words.specs.declared.overlay.Overlay.{Overlay}
use Rattle.room_words.specs.declared.term.Term.{Term}
use Rattle.temporary.specs.Parts.{is_at, is_first_at, is_second_at}

-- ---- marks

one_marks : (x : ℕ) (one : TempItem) (kept : List TempItem) (b : Bool) → is_item_on x one ≡ b → length (filter_map item_mark kept) ≡ length kept
    → length (filter_map item_mark (cond b (one ∷ kept) kept)) ≡ length (cond b (one ∷ kept) kept)
one_marks x one kept false is rest = rest
one_marks x (item.Cut id segment length is_open) kept true is rest = ap suc rest
one_marks x (item.Clamp id segment length) kept true is rest = ap suc rest
one_marks x (item.Jumper id first second phases is_open) kept true is rest = absurd cc
one_marks x (item.Ground id at phases) kept true is rest = absurd cc

all_marks : (x : ℕ) (items : List TempItem) → length (filter_map item_mark (filter (is_item_on x) items)) ≡ length (filter (is_item_on x) items)
all_marks x [] = refl
all_marks x (one ∷ items) = one_marks x one (filter (is_item_on x) items) (is_item_on x one) refl (all_marks x items)

pub marks_counted : (m : List Statement) (o : Overlay) (x : ℕ) → length (marks_on m o x) ≡ length (marks_of m x) + length (filter (is_item_on x) o.items)
marks_counted m o x = length-append (marks_of m x) (item_marks o x) ∙ ap (λ (n : ℕ). length (marks_of m x) + n) (all_marks x o.items)

-- ---- terminals

abbrev bit : Bool → ℕ
bit b = cond b 1 0

counts_first : {X : Type 0} (x : X) (kept : List X) (b : Bool) → length (cond b (x ∷ kept) kept) ≡ bit b + length kept
counts_first x kept true = omega arith
counts_first x kept false = omega arith

counts_one : {X : Type 0} (p : X → Bool) (x : X) (b : Bool) → p x ≡ b → length (filter p (x ∷ [])) ≡ bit (list_any p (x ∷ []))
counts_one p x true is = rw is refl
counts_one p x false is = rw is refl

counts_some : {X : Type 0} (p : X → Bool) (found : Option X) → length (filter p (as_list found)) ≡ bit (list_any p (as_list found))
counts_some p None = refl
counts_some p (Some x) = counts_one p x (p x) refl

at_item : (place : Anchor) (one : TempItem) → length (item_terms_at place one) ≡ bit (is_first_at place one) + bit (is_second_at place one)
at_item place one =
    length-map (filter (is_at place) (side_one one ∷ as_list (side_two one))) term_in
    ∙ counts_first (side_one one) (filter (is_at place) (as_list (side_two one))) (is_at place (side_one one))
    ∙ ap (λ (n : ℕ). bit (is_first_at place one) + n) (counts_some (is_at place) (side_two one))

both_sides : (place : Anchor) (items : List TempItem) → length (flat_map (item_terms_at place) items) ≡ length (filter (is_first_at place) items) + length (filter (is_second_at place) items)
both_sides place [] = refl
both_sides place (one ∷ items) =
    let whole = length-append (item_terms_at place one) (flat_map (item_terms_at place) items) in
    let here = at_item place one in
    let rest = both_sides place items in
    let first = counts_first one (filter (is_first_at place) items) (is_first_at place one) in
    let second = counts_first one (filter (is_second_at place) items) (is_second_at place one) in
    omega (arith, whole, here, rest, first, second)

pub terms_counted : (m : List Statement) (o : Overlay) (place : Anchor)
    → length (terms_at m o place) ≡ length (real_terms_at m place) + length (filter (is_first_at place) o.items) + length (filter (is_second_at place) o.items)
terms_counted m o place =
    let whole = length-append (real_terms_at m place) (flat_map (item_terms_at place) o.items) in
    let sides = both_sides place o.items in
    omega (arith, whole, sides)

one_owned : (t : ℕ) (kept : List Id) (terms : List Term) (found : Option ℕ) → length kept ≡ length terms
    → length (cond (is_some found) (as_id t ∷ kept) kept) ≡ length (cons_option (option_map (λ (owner : ℕ). real owner t) found) terms)
one_owned t kept terms None rest = rest
one_owned t kept terms (Some owner) rest = ap suc rest

pub owners_counted : (m : List Statement) (ts : List ℕ) → length (filter (λ (t : Id). is_some (owner_of m t.number)) (map as_id ts)) ≡ length (filter_map (owned m) ts)
owners_counted m [] = refl
owners_counted m (t ∷ ts) = one_owned t (filter (λ (t : Id). is_some (owner_of m t.number)) (map as_id ts)) (filter_map (owned m) ts) (owner_of m t) (owners_counted m ts)

-- ---- within a limit

pub within_two : (limit a b n : ℕ) → a ≤ limit → n ≡ a + b → nat_le b (limit - a) ≡ nat_le n limit
within_two limit a b n first is = grind (arith, nat_tests)

pub within_three : (limit a b c n : ℕ) → a ≤ limit → b ≤ limit - a → n ≡ a + b + c → nat_le c (limit - a - b) ≡ nat_le n limit
within_three limit a b c n first second is = grind (arith, nat_tests)

pub beyond_two : (limit a b c n : ℕ) → a ≤ limit → nat_le b (limit - a) ≡ false → n ≡ a + b + c → nat_le n limit ≡ false
beyond_two limit a b c n first second is = grind (arith, nat_tests)
