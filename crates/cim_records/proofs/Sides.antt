-- The terminals of segments and cuts by side, in a model without fault.
use Rattle.std.proofs.Common.{◌≡◌, ℕ, ◌==◌, List, [], ◌∷◌, ◌++◌, map, length, Bool, true, false, not, cond, ◌||◌, ◌&&◌, Option, Some, None, refl, ap, sym, ◌∙◌, arith, ⊎_elim}
use Rattle.std.specs.Prelude.{if◌then◌else◌, is_some}
use Rattle.std.specs.List.{filter, list_any}
use Rattle.std.proofs.lemmas.List.Folds.{list_any-append, list_any_none}
use Rattle.std.proofs.lemmas.Bool.{and_cases, and_parts, eqb-true, not-false, not_from_true, or_cases, or_parts}
use Rattle.std.proofs.lemmas.List.Elements.{filter_passes}
use Rattle.cim_model.proofs.TerminalSides.{empty_has_no_first, ends_of_sides, number_stated, only_is_first}
use Rattle.plain_laws.proofs.Filters.{filter_always, filter_never}
use Rattle.plain_laws.proofs.Tests.{any_map}
use Rattle.plain_laws.proofs.Truth.{and_second_false}
use Rattle.cim_words.specs.Groups.{has_two_ends, is_cut, is_segment, is_terminal}
use Rattle.cim_words.specs.Phases.{has_phase}
use Rattle.cim_words.specs.declared.class.Class.{Class}
use Rattle.cim_words.specs.declared.identifier.Id.{Id}
use Rattle.cim_words.specs.Properties as property
use Rattle.cim_words.specs.declared.statement.Statement.{Statement}
use Rattle.cim_model.specs.Model.{is_empty, is_of, naming}
use Rattle.cim_model.specs.Network.{by_side, class_in, first, has_sides, is_class, is_some_number, number_of, terminals_by_side, phases_of}
use Rattle.cim_model.specs.Phases.{union}
use Rattle.cim_model.specs.Profile.{IsFaultless, are_misnumbered, are_one_and_two, breaks_terminals, is_one}
use Rattle.cim_model.specs.Stated.{clamps_of, cuts_of, numbers_of, terminals_of}
use Rattle.cim_model.specs.Values.{as_id}
use Rattle.cim_records.proofs.Phases.{same_sets}
use Rattle.cim_model.proofs.Classes.{is_of_by_class}
use Rattle.cim_model.proofs.FaultlessSubjects.{empty_map, breaks_no_rule}
use Rattle.cim_model.proofs.SaidLemmas.{of_class_is_subject}

-- those that pass a test, and after them the others
abbrev pub parted : (ℕ → Bool) → List ℕ → List ℕ
parted test ts = filter test ts ++ filter (λ t. not (test t)) ts

-- a terminal with the number 1
abbrev pub is_first : List Statement → ℕ → Bool
is_first m t = is_some_number 1 (number_of m t)

-- ---- two terminals and their numbers

abbrev by_number : (ℕ → Option ℕ) → List ℕ → List ℕ
by_number number ts =
    if list_any (λ t. is_some (number t)) ts then filter (λ t. is_some_number 1 (number t)) ts ++ filter (λ t. is_some_number 2 (number t)) ts else ts

in_order : (number : ℕ → Option ℕ) (t u : ℕ) → number t ≡ Some 1 → number u ≡ Some 2 → by_number number (t ∷ u ∷ []) ≡ parted (λ t. is_some_number 1 (number t)) (t ∷ u ∷ [])
in_order number t u one two = rw (one, two) refl

turned_round : (number : ℕ → Option ℕ) (t u : ℕ) → number t ≡ Some 2 → number u ≡ Some 1 → by_number number (t ∷ u ∷ []) ≡ parted (λ t. is_some_number 1 (number t)) (t ∷ u ∷ [])
turned_round number t u two one = rw (two, one) refl

without_numbers : (number : ℕ → Option ℕ) (t u : ℕ) → number t ≡ None → number u ≡ None → by_number number (t ∷ u ∷ []) ≡ parted (λ t. is_some_number 1 (number t)) (t ∷ u ∷ [])
without_numbers number t u none no_other = rw (none, no_other) refl

two_parted : (number : ℕ → Option ℕ) (t u : ℕ) (a b : List ℕ) (c : Bool) → number t ≡ first a → number u ≡ first b → (not (are_one_and_two a b) && not (c && is_empty a && is_empty b)) ≡ false
    → by_number number (t ∷ u ∷ []) ≡ parted (λ t. is_some_number 1 (number t)) (t ∷ u ∷ [])
two_parted number t u a b c first_number other_number rule =
    ⊎_elim
    (λ numbered. ⊎_elim
    (λ rising. let both = and_parts (is_one 1 a) (is_one 2 b) rising in in_order number t u (first_number ∙ only_is_first 1 a both.0) (other_number ∙ only_is_first 2 b both.1))
    (λ falling. let both = and_parts (is_one 2 a) (is_one 1 b) falling in turned_round number t u (first_number ∙ only_is_first 2 a both.0) (other_number ∙ only_is_first 1 b both.1))
    (or_cases _ _ (not-false _ numbered)))
    (λ free. let both = and_parts (c && is_empty a) (is_empty b) (not-false _ free) in without_numbers number t u (first_number ∙ empty_has_no_first a (and_parts c (is_empty a) both.0).1) (other_number ∙ empty_has_no_first b both.1))
    (and_cases (not (are_one_and_two a b)) (not (c && is_empty a && is_empty b)) rule)

-- ---- the terminals of equipment

no_others : (p : ℕ → Bool) (xs : List ℕ) → list_any (λ t. not (p t)) (filter p xs) ≡ false
no_others p xs = list_any_none (λ t. not (p t)) (filter p xs) (λ k d below. not_from_true _ (filter_passes p xs k d below))

others_of : (m : List Statement) (x : ℕ) (ts : List ℕ) → terminals_of m x ≡ ts → list_any (λ t. not (is_of m is_terminal t)) ts ≡ false
others_of m x ts is = ap (list_any (λ t. not (is_of m is_terminal t))) (sym is) ∙ no_others (is_of m is_terminal) (naming m property.conducting_equipment x)

sided : (m : List Statement) (x : ℕ) (ts : List ℕ) → terminals_of m x ≡ ts → length ts ≡ 2 → are_misnumbered m x ts ≡ false → by_side m ts ≡ parted (is_first m) ts
sided m x [] is two rule = absurd (omega arith)
sided m x (t ∷ []) is two rule = absurd (omega arith)
sided m x (t ∷ u ∷ []) is two rule =
    let terminals = or_parts (not (is_of m is_terminal t)) _ (others_of m x (t ∷ u ∷ []) is) in
    let other = or_parts (not (is_of m is_terminal u)) _ terminals.1 in
    two_parted (number_of m) t u (numbers_of m t) (numbers_of m u) (is_of m is_segment x && is_empty (cuts_of m x) && is_empty (clamps_of m x))
    (number_stated m t (not-false _ terminals.0)) (number_stated m u (not-false _ other.0)) rule
sided m x (t ∷ u ∷ v ∷ more) is two rule = absurd (omega arith)

-- ---- what has sides

class_two_ended : (o : Option Class) → is_class has_sides o ≡ true → is_class has_two_ends o ≡ true
class_two_ended None h = absurd cc
class_two_ended (Some c) h = ends_of_sides c h

class_either : (o : Option Class) → (is_class is_segment o || is_class is_cut o) ≡ is_class has_sides o
class_either None = refl
class_either (Some c) = refl

module _ (m : List Statement) (faultless : IsFaultless m) (x : ℕ) where
  has_two : is_of m has_sides x ≡ true → is_of m has_two_ends x ≡ true
  has_two h = is_of_by_class has_two_ends m x faultless ∙ class_two_ended (class_in m x) (sym (is_of_by_class has_sides m x faultless) ∙ h)

  is_either : is_of m has_sides x ≡ true → (is_of m is_segment x || is_of m is_cut x) ≡ true
  is_either h = rw (is_of_by_class is_segment m x faultless, is_of_by_class is_cut m x faultless) (class_either (class_in m x) ∙ sym (is_of_by_class has_sides m x faultless) ∙ h)

  are_two : is_of m has_sides x ≡ true → length (terminals_of m x) ≡ 2
  are_two h =
      let kept : breaks_terminals m x ≡ false = breaks_no_rule m 5 x faultless (of_class_is_subject m has_sides x h) in
      eqb-true _ _ (not-false _ (and_second_false (is_of m has_two_ends x) _ (or_parts (is_of m has_two_ends x && not (length (terminals_of m x) == 2)) _ (or_parts _ _ kept).0).0 (has_two h)))

  well_numbered : is_of m has_sides x ≡ true → are_misnumbered m x (terminals_of m x) ≡ false
  well_numbered h = and_second_false (is_of m is_segment x || is_of m is_cut x) _ (breaks_no_rule m 6 x faultless (of_class_is_subject m has_sides x h)) (is_either h)

  parted_at : (b : Bool) → is_of m has_sides x ≡ b → (if b then by_side m (terminals_of m x) else terminals_of m x) ≡ parted (λ t. b && is_first m t) (terminals_of m x)
  parted_at true is = sided m x (terminals_of m x) refl (are_two is) (well_numbered is)
  parted_at false is =
      sym (rw (filter_never (λ (t : ℕ). false) (λ t. refl) (terminals_of m x), filter_always (λ (t : ℕ). true) (λ t. refl) (terminals_of m x)) refl)

  -- the terminals of equipment with those before the others that have the number 1 where it has sides
  pub terminals_parted : terminals_by_side m x ≡ parted (λ t. is_of m has_sides x && is_first m t) (terminals_of m x)
  terminals_parted = parted_at (is_of m has_sides x) refl

-- ---- what does not depend on the order

some_behind : {X : Type 0} (xs : List X) (y : X) (ys : List X) → is_empty (xs ++ y ∷ ys) ≡ false
some_behind [] y ys = refl
some_behind (x ∷ xs) y ys = refl

parted_empty : (p : ℕ → Bool) (ts : List ℕ) → is_empty (parted p ts) ≡ is_empty ts
parted_empty p [] = refl
parted_empty p (t ∷ ts) = at (p t) refl
  where
    at : (b : Bool) → p t ≡ b → is_empty (cond b (t ∷ filter p ts) (filter p ts) ++ cond (not b) (t ∷ filter (λ u. not (p u)) ts) (filter (λ u. not (p u)) ts)) ≡ false
    at true is = refl
    at false is = some_behind (filter p ts) t (filter (λ u. not (p u)) ts)

pub empty_by_side : (m : List Statement) → IsFaultless m → (x : ℕ) → is_empty (map as_id (terminals_by_side m x)) ≡ is_empty (terminals_of m x)
empty_by_side m faultless x = empty_map as_id (terminals_by_side m x) ∙ ap is_empty (terminals_parted m faultless x) ∙ parted_empty _ (terminals_of m x)

brought : (a b c : Bool) → (a || (b || c)) ≡ (b || (a || c))
brought true true c = refl
brought true false c = refl
brought false b c = refl

any_part : (q p : ℕ → Bool) (t : ℕ) (ts : List ℕ) (b : Bool) → list_any q (parted p ts) ≡ list_any q ts
    → list_any q (cond b (t ∷ filter p ts) (filter p ts) ++ cond (not b) (t ∷ filter (λ u. not (p u)) ts) (filter (λ u. not (p u)) ts)) ≡ (q t || list_any q ts)
any_part q p t ts true so = ap (λ (r : Bool). q t || r) so
any_part q p t ts false so =
    list_any-append q (filter p ts) (t ∷ filter (λ u. not (p u)) ts)
    ∙ brought (list_any q (filter p ts)) (q t) _
    ∙ ap (λ (r : Bool). q t || r) (sym (list_any-append q (filter p ts) (filter (λ u. not (p u)) ts)) ∙ so)

any_parted : (q p : ℕ → Bool) (ts : List ℕ) → list_any q (parted p ts) ≡ list_any q ts
any_parted q p [] = refl
any_parted q p (t ∷ ts) = any_part q p t ts (p t) (any_parted q p ts)

-- terminals have the same phases by side
pub union_by_side : (m : List Statement) → IsFaultless m → (x : ℕ) → union (map (λ (id : Id). phases_of m id.number) (map as_id (terminals_by_side m x))) ≡ union (map (phases_of m) (terminals_of m x))
union_by_side m faultless x = same_sets _ _ (λ p.
    any_map (λ set. has_phase set p) (λ (id : Id). phases_of m id.number) (map as_id (terminals_by_side m x))
    ∙ any_map (λ (id : Id). has_phase (phases_of m id.number) p) as_id (terminals_by_side m x)
    ∙ ap (list_any (λ t. has_phase (phases_of m t) p)) (terminals_parted m faultless x)
    ∙ any_parted (λ t. has_phase (phases_of m t) p) _ (terminals_of m x)
    ∙ sym (any_map (λ set. has_phase set p) (phases_of m) (terminals_of m x)))
