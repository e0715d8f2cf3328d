-- Ordering the terminals of equipment by side loses none of them.
use Rattle.std.proofs.Common.{◌≡◌, ℕ, ◌⊎◌, inl, inr, List, [], ◌∷◌, ◌++◌, length, Bool, true, false, not, ◌&&◌, ◌||◌, ◌==◌, cond, Option, Some, None, is_some, refl, ap, sym, ◌∙◌, subst, arith}
use Rattle.std.specs.List.{list_any}
use Rattle.std.proofs.lemmas.Bool.{eqb-true, or_cases, or_left, or_right}
use Rattle.plain_laws.proofs.Each.{each_among}
use Rattle.plain_laws.proofs.Members.{Among, among_either, among_filter, among_filter_passes, among_left, among_right, filter_among}
use Rattle.plain_laws.proofs.Numbers.{equal_itself}
use Rattle.plain_laws.proofs.Tests.{among_any, any_among}
use Rattle.plain_laws.proofs.Truth.{and_first, and_second, and_second_false}
use Rattle.cim_words.specs.Groups.{has_two_ends, is_cut, is_segment, is_single, is_switch, is_terminal}
use Rattle.cim_words.specs.declared.class.Class.{Class}
use Rattle.cim_words.specs.declared.class.Class.TheVariants as class
use Rattle.cim_words.specs.Properties as property
use Rattle.cim_words.specs.declared.statement.Statement.{Statement}
use Rattle.cim_model.specs.Model.{is_empty, is_of, is_subject, naming, types}
use Rattle.cim_model.specs.Network.{by_side, first, has_sides, is_some_number, number_of, owner_of, terminals_by_side, with_number}
use Rattle.cim_model.specs.Profile.{IsFaultless, are_misnumbered, are_one_and_two, breaks_numbers, breaks_terminals, is_one, needs_no_numbers}
use Rattle.cim_model.specs.Stated.{clamps_of, cuts_of, numbers_of, terminals_of}
use Rattle.cim_model.proofs.FaultlessSubjects.{breaks_no_rule}
use Rattle.cim_model.proofs.FaultlessTerminals.{listed_is_owned, owned_is_listed, owner_subject}

-- the order adds nothing
by_side_if : (m : List Statement) (ts : List ℕ) (t : ℕ) (b : Bool) → Among (cond b (with_number m 1 ts ++ with_number m 2 ts) ts) t → Among ts t
by_side_if m ts t true h = elim (among_either (with_number m 1 ts) (with_number m 2 ts) t h) [ inl one ↦ filter_among (λ t. is_some_number 1 (number_of m t)) ts t one | inr two ↦ filter_among (λ t. is_some_number 2 (number_of m t)) ts t two ]
by_side_if m ts t false h = h

sides_if : (m : List Statement) (ts : List ℕ) (t : ℕ) (b : Bool) → Among (cond b (by_side m ts) ts) t → Among ts t
sides_if m ts t true h = by_side_if m ts t (list_any (λ t. is_some (number_of m t)) ts) h
sides_if m ts t false h = h

pub side_listed : (m : List Statement) (x t : ℕ) → Among (terminals_by_side m x) t → Among (terminals_of m x) t
side_listed m x t h = sides_if m (terminals_of m x) t (is_of m has_sides x) h

-- it keeps what is numbered 1 or 2, and everything where nothing is numbered
number_passes : (n : ℕ) (o : Option ℕ) → o ≡ Some n → is_some_number n o ≡ true
number_passes n o is = rw is (equal_itself n)

numbered_if : (m : List Statement) (ts : List ℕ) (t : ℕ) (b : Bool) → Among ts t → (number_of m t ≡ Some 1) ⊎ (number_of m t ≡ Some 2) → Among (cond b (with_number m 1 ts ++ with_number m 2 ts) ts) t
numbered_if m ts t true there (inl one) = among_left (with_number m 1 ts) (with_number m 2 ts) t (among_filter (λ t. is_some_number 1 (number_of m t)) ts t there (number_passes 1 (number_of m t) one))
numbered_if m ts t true there (inr two) = among_right (with_number m 1 ts) (with_number m 2 ts) t (among_filter (λ t. is_some_number 2 (number_of m t)) ts t there (number_passes 2 (number_of m t) two))
numbered_if m ts t false there number = there

some_not_none : (o : Option ℕ) → is_some o ≡ true → o ≡ None → ⊥
some_not_none None h is = cc
some_not_none (Some n) h is = cc

unnumbered_if : (m : List Statement) (ts : List ℕ) (t : ℕ) (b : Bool) → list_any (λ t. is_some (number_of m t)) ts ≡ b → Among ts t → ((u : ℕ) → Among ts u → number_of m u ≡ None)
    → Among (cond b (with_number m 1 ts ++ with_number m 2 ts) ts) t
unnumbered_if m ts t true is there none =
    let from = any_among (λ t. is_some (number_of m t)) ts is in
    absurd (some_not_none (number_of m from.0) from.2 (none from.0 from.1))
unnumbered_if m ts t false is there none = there

-- a segment's two terminals are numbered 1 and 2, or not at all
IsOneOrTwo : List Statement → ℕ → Type 0
IsOneOrTwo m t = (number_of m t ≡ Some 1) ⊎ (number_of m t ≡ Some 2)

-- the first of one number alone, and of none
pub only_is_first : (n : ℕ) (ns : List ℕ) → is_one n ns ≡ true → first ns ≡ Some n
only_is_first n [] h = absurd cc
only_is_first n (k ∷ []) h = ap (λ (i : ℕ). Some i) (eqb-true k n h)
only_is_first n (k ∷ l ∷ ns) h = absurd cc

pub empty_has_no_first : (ns : List ℕ) → is_empty ns ≡ true → first ns ≡ None
empty_has_no_first [] h = refl
empty_has_no_first (n ∷ ns) h = absurd cc

two_of : (xs : List ℕ) → length xs ≡ 2 → (a : ℕ) × (b : ℕ) × (xs ≡ a ∷ b ∷ [])
two_of [] h = absurd (omega arith)
two_of (a ∷ []) h = absurd (omega arith)
two_of (a ∷ b ∷ []) h = (a, b, refl)
two_of (a ∷ b ∷ c ∷ xs) h = absurd (omega arith)

pub number_stated : (m : List Statement) (t : ℕ) → is_of m is_terminal t ≡ true → number_of m t ≡ first (numbers_of m t)
number_stated m t terminal = ap (λ (b : Bool). cond b (first (numbers_of m t)) None) terminal

numbered : (m : List Statement) (t n : ℕ) → is_of m is_terminal t ≡ true → is_one n (numbers_of m t) ≡ true → number_of m t ≡ Some n
numbered m t n terminal is = number_stated m t terminal ∙ only_is_first n (numbers_of m t) is

unnumbered : (m : List Statement) (t : ℕ) → is_of m is_terminal t ≡ true → is_empty (numbers_of m t) ≡ true → number_of m t ≡ None
unnumbered m t terminal is = number_stated m t terminal ∙ empty_has_no_first (numbers_of m t) is

one_and_two : (m : List Statement) (a b : ℕ) → is_of m is_terminal a ≡ true → is_of m is_terminal b ≡ true → are_one_and_two (numbers_of m a) (numbers_of m b) ≡ true → IsOneOrTwo m a × IsOneOrTwo m b
unfolding IsOneOrTwo
one_and_two m a b at_a at_b h = elim (or_cases (is_one 1 (numbers_of m a) && is_one 2 (numbers_of m b)) (is_one 2 (numbers_of m a) && is_one 1 (numbers_of m b)) h) [
  | inl up ↦ (inl (numbered m a 1 at_a (and_first _ _ up)), inr (numbered m b 2 at_b (and_second (is_one 1 (numbers_of m a)) _ up)))
  | inr down ↦ (inr (numbered m a 2 at_a (and_first _ _ down)), inl (numbered m b 1 at_b (and_second (is_one 2 (numbers_of m a)) _ down)))
]

neither_numbered : (m : List Statement) (x a b : ℕ) → is_of m is_terminal a ≡ true → is_of m is_terminal b ≡ true → needs_no_numbers m x (numbers_of m a) (numbers_of m b) ≡ true
    → (number_of m a ≡ None) × (number_of m b ≡ None)
neither_numbered m x a b at_a at_b h =
    let empty = last_two (is_of m is_segment x) (is_empty (cuts_of m x)) (is_empty (clamps_of m x)) (is_empty (numbers_of m a)) (is_empty (numbers_of m b)) h in
    (unnumbered m a at_a empty.0, unnumbered m b at_b empty.1)
  where
    last_two : (p q r s u : Bool) → (p && q && r && s && u) ≡ true → (s ≡ true) × (u ≡ true)
    last_two true true true s u h = (and_first s u h, and_second s u h)
    last_two true true false s u h = absurd cc
    last_two true false r s u h = absurd cc
    last_two false q r s u h = absurd cc

unless_neither : (a b : Bool) → (not a && not b) ≡ false → (a ≡ true) ⊎ (b ≡ true)
unless_neither true b h = inl refl
unless_neither false true h = inr refl
unless_neither false false h = absurd cc

two_sides : (m : List Statement) (x t a b : ℕ) → ((u : ℕ) → Among (a ∷ b ∷ []) u → is_of m is_terminal u ≡ true) → are_misnumbered m x (a ∷ b ∷ []) ≡ false → Among (a ∷ b ∷ []) t
    → Among (by_side m (a ∷ b ∷ [])) t
unfolding IsOneOrTwo
two_sides m x t a b terminals right there =
    let at_a = terminals a (inl refl) in
    let at_b = terminals b (inr (inl refl)) in
    let any = list_any (λ t. is_some (number_of m t)) (a ∷ b ∷ []) in
    elim (unless_neither (are_one_and_two (numbers_of m a) (numbers_of m b)) (needs_no_numbers m x (numbers_of m a) (numbers_of m b)) right) [
      | inl numbers ↦ (let each = one_and_two m a b at_a at_b numbers in numbered_if m (a ∷ b ∷ []) t any there (each_among (IsOneOrTwo m) (a ∷ b ∷ []) t (each.0, (each.1, tt)) there))
      | inr none ↦ (let each = neither_numbered m x a b at_a at_b none in unnumbered_if m (a ∷ b ∷ []) t any refl there (λ u has. each_among (λ v. number_of m v ≡ None) (a ∷ b ∷ []) u (each.0, (each.1, tt)) has))
    ]

sides_of_two : (m : List Statement) (x t : ℕ) (ts : List ℕ) → (a : ℕ) × (b : ℕ) × (ts ≡ a ∷ b ∷ []) → ((u : ℕ) → Among ts u → is_of m is_terminal u ≡ true) → are_misnumbered m x ts ≡ false
    → Among ts t → Among (by_side m ts) t
sides_of_two m x t ts two =
    subst (λ (those : List ℕ). ((u : ℕ) → Among those u → is_of m is_terminal u ≡ true) → are_misnumbered m x those ≡ false → Among those t → Among (by_side m those) t) (sym two.2) (two_sides m x t two.0 two.1)

-- what has sides, a segment or a cut, has two ends
pub cut_switch : (c : Class) → is_cut c ≡ true → is_switch c ≡ true
cut_switch class.Cut h = refl
cut_switch _ h = absurd cc

pub ends_of_sides : (c : Class) → has_sides c ≡ true → has_two_ends c ≡ true
ends_of_sides c h = elim (or_cases (is_segment c) (is_cut c) h) [
  | inl segment ↦ or_left (is_segment c) (is_switch c) segment
  | inr cut ↦ or_right (is_segment c) (is_switch c) (cut_switch c cut)
]

two_ends : (m : List Statement) (x : ℕ) → is_of m has_sides x ≡ true → is_of m has_two_ends x ≡ true
two_ends m x h =
    let c = any_among has_sides (types m x) h in
    among_any has_two_ends (types m x) c.0 c.1 (ends_of_sides c.0 c.2)

segment_or_cut : (m : List Statement) (x : ℕ) → is_of m has_sides x ≡ true → (is_of m is_segment x || is_of m is_cut x) ≡ true
segment_or_cut m x h =
    let c = any_among has_sides (types m x) h in
    elim (or_cases (is_segment c.0) (is_cut c.0) c.2) [
      | inl segment ↦ or_left (is_of m is_segment x) (is_of m is_cut x) (among_any is_segment (types m x) c.0 c.1 segment)
      | inr cut ↦ or_right (is_of m is_segment x) (is_of m is_cut x) (among_any is_cut (types m x) c.0 c.1 cut)
    ]

has_two : (a b c d e : Bool) → (a && not b || c && not d || not (a || c) && e) ≡ false → a ≡ true → b ≡ true
has_two true true c d e h is = refl
has_two true false c d e h is = absurd cc
has_two false b c d e h is = absurd cc

sided : (m : List Statement) (x t : ℕ) → IsFaultless m → is_subject m x ≡ true → is_of m has_sides x ≡ true → Among (terminals_of m x) t → Among (by_side m (terminals_of m x)) t
sided m x t faultless subject sides there =
    let ends : breaks_terminals m x ≡ false = breaks_no_rule m 5 x faultless subject in
    let numbers : breaks_numbers m x ≡ false = breaks_no_rule m 6 x faultless subject in
    let count = length (terminals_of m x) in
    let two : count ≡ 2 = eqb-true count 2 (has_two (is_of m has_two_ends x) (count == 2) (is_of m is_single x) (count == 1) _ ends (two_ends m x sides)) in
    sides_of_two m x t (terminals_of m x) (two_of (terminals_of m x) two) (λ u has. among_filter_passes (is_of m is_terminal) (naming m property.conducting_equipment x) u has)
    (and_second_false (is_of m is_segment x || is_of m is_cut x) (are_misnumbered m x (terminals_of m x)) numbers (segment_or_cut m x sides))
    there

listed_if : (m : List Statement) (x t : ℕ) (b : Bool) → is_of m has_sides x ≡ b → IsFaultless m → is_subject m x ≡ true → Among (terminals_of m x) t
    → Among (cond b (by_side m (terminals_of m x)) (terminals_of m x)) t
listed_if m x t true is faultless subject there = sided m x t faultless subject is there
listed_if m x t false is faultless subject there = there

-- so the terminals of equipment by side are those that it owns
pub owned_side : (m : List Statement) (y t : ℕ) → IsFaultless m → owner_of m t ≡ Some y → Among (terminals_by_side m y) t
owned_side m y t faultless owned = listed_if m y t (is_of m has_sides y) refl faultless (owner_subject m y t faultless owned) (owned_is_listed m y t owned)

pub side_owned : (m : List Statement) (y t : ℕ) → IsFaultless m → Among (terminals_by_side m y) t → owner_of m t ≡ Some y
side_owned m y t faultless there = listed_is_owned m y t faultless (side_listed m y t there)
