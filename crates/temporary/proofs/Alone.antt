-- Items of which each has an identifier of its own.
use Rattle.std.proofs.Common.{◌≡◌, ℕ, suc, inl, inr, List, [], ◌∷◌, map, length, Bool, true, false, ◌==◌, cond, nat_eq, refl, ap, ◌∙◌, subst, arith}
use Rattle.std.specs.List.{AllByRecursion, IsDistinct, filter}
use Rattle.plain_laws.proofs.Each.{each_read}
use Rattle.plain_laws.proofs.Members.{Among, among_filter, among_nothing}
use Rattle.plain_laws.proofs.Numbers.{equal_itself, equal_turned}
use Rattle.plain_laws.proofs.Truth.{never_both}
use Rattle.room_words.specs.Items.{item_number}
use Rattle.room_words.specs.declared.items.TempItem.{TempItem}
use Rattle.temporary.specs.Parts.{has_number}

abbrev pub counted : ℕ → List TempItem → ℕ
counted n items = length (filter (has_number n) items)

-- ---- none of some has a number

none_step : (n : ℕ) (y : TempItem) (ys : List TempItem) (b : Bool) → (item_number y == n) ≡ b → length (cond b (y ∷ ys) ys) ≡ 0 → (nat_eq n (item_number y) ≡ false) × (length ys ≡ 0)
none_step n y ys true is none = absurd (omega arith)
none_step n y ys false is none = (equal_turned n (item_number y) ∙ is, none)

pub none_differ : (n : ℕ) (items : List TempItem) → counted n items ≡ 0 → AllByRecursion (λ (k : ℕ). nat_eq n k ≡ false) (map item_number items)
none_differ n [] none = tt
none_differ n (y ∷ items) none =
    let here = none_step n y (filter (has_number n) items) (has_number n y) refl none in
    (here.0, none_differ n items here.1)

counts_not : (n : ℕ) (y : TempItem) (ys : List TempItem) (b : Bool) → (item_number y == n) ≡ b → nat_eq n (item_number y) ≡ false → length ys ≡ 0 → length (cond b (y ∷ ys) ys) ≡ 0
counts_not n y ys true is apart none = absurd (never_both (item_number y == n) is (equal_turned (item_number y) n ∙ apart))
counts_not n y ys false is apart none = none

differ_none : (n : ℕ) (items : List TempItem) → AllByRecursion (λ (k : ℕ). nat_eq n k ≡ false) (map item_number items) → counted n items ≡ 0
differ_none n [] apart = refl
differ_none n (y ∷ items) apart = counts_not n y (filter (has_number n) items) (has_number n y) refl apart.0 (differ_none n items apart.1)

-- ---- one of some has it

first_counts : (y : TempItem) (ys : List TempItem) (b : Bool) → b ≡ true → length (cond b (y ∷ ys) ys) ≡ suc (length ys)
first_counts y ys true is = refl
first_counts y ys false is = absurd cc

rest_counts : (y : TempItem) (ys : List TempItem) (b : Bool) → (length ys ≡ 0 → ⊥) → length (cond b (y ∷ ys) ys) ≡ 1 → (b ≡ false) × (length ys ≡ 1)
rest_counts y ys true some one = absurd (some (omega arith))
rest_counts y ys false some one = (refl, one)

not_first : (y : TempItem) (ys : List TempItem) (b : Bool) → b ≡ false → length ys ≡ 1 → length (cond b (y ∷ ys) ys) ≡ 1
not_first y ys true is one = absurd cc
not_first y ys false is one = one

is_counted : (items : List TempItem) (one : TempItem) → Among items one → counted (item_number one) items ≡ 0 → ⊥
is_counted items one there none =
    among_nothing (filter (has_number (item_number one)) items) one none (among_filter (has_number (item_number one)) items one there (equal_itself (item_number one)))

-- ---- each has one of its own

pub distinct_items : (items : List TempItem) → ((one : TempItem) → Among items one → length (filter (has_number (item_number one)) items) ≡ 1) → IsDistinct nat_eq (map item_number items)
unfolding IsDistinct
distinct_items [] each = tt
distinct_items (x ∷ items) each =
    let n = item_number x in
    let first = each x (inl refl) in
    let counts = first_counts x (filter (has_number n) items) (has_number n x) (equal_itself n) in (
      none_differ n items (omega (arith, first, counts)),
      distinct_items items (λ one there. (rest_counts x (filter (has_number (item_number one)) items) (has_number (item_number one) x) (is_counted items one there) (each one (inr there))).1),
    )

pub alone_items : (items : List TempItem) → IsDistinct nat_eq (map item_number items) → (one : TempItem) → Among items one → length (filter (has_number (item_number one)) items) ≡ 1
unfolding IsDistinct
alone_items [] distinct one there = absurd there
alone_items (x ∷ items) distinct one (inl is) =
    subst (λ (z : TempItem). length (filter (has_number (item_number z)) (x ∷ items)) ≡ 1) is
    (first_counts x (filter (has_number (item_number x)) items) (has_number (item_number x) x) (equal_itself (item_number x)) ∙ ap suc (differ_none (item_number x) items distinct.0))
alone_items (x ∷ items) distinct one (inr there) =
    not_first x (filter (has_number (item_number one)) items) (has_number (item_number one) x) (each_read (λ n. nat_eq (item_number x) n ≡ false) item_number items one distinct.0 there) (alone_items items distinct.1 one there)
