-- What ordered lists of statements hold, what a call gives that makes a set, and the statements that are not in another list.
use Rattle.std.proofs.Common.{◌≡◌, ◌↔◌, List, Contains, Bool, IsTrue, ◌++◌, Result, Ok, Err, ⊎_elim, inl, inr, IfErr, arith, rules, ℕ, ◌+◌, ◌<◌, ◌≤◌, [], ◌∷◌, true, false, not, ◌&&◌, length, take, get_or, refl, sym, ap, ◌∙◌}
use Rattle.std.specs.BTreeSet.{BTreeSet, contains}
use Rattle.std.specs.Cmp.{Equal-is, both_ways}
use Rattle.std.proofs.lemmas.Map.Lookups.{btree_set_from_contains}
use Rattle.std.proofs.lemmas.Map.Views.{any-filter_same, btree_set_contains_iff}
use Rattle.std.proofs.lemmas.List.Elements.{filter_more}
use Rattle.std.specs.List.{filter}
use Rattle.std.specs.Ordering.{is_eq}
use Rattle.std.proofs.lemmas.List.Kept.{IsStrictlySortedBy-filter}
use Rattle.std.proofs.lemmas.Bool.{and_from, and_parts, false_from_ne_true}
use Rattle.plain_laws.proofs.Truth.{not_both}
use Rattle.statement_set.specs.declared.refusal.SetRefusal.TheVariants.{NoMemory, TooMany}
use Rattle.statement_set.specs.declared.refusal.SetRefusal.{SetRefusal}
use Rattle.statement_set.specs.Gives.{Gives}
use Rattle.cim_words.specs.Order.{statement_order}
use Rattle.cim_words.specs.declared.statement.Statement.{Statement}
use Rattle.cim_words.proofs.Orders.{statement_order_total, tied_statements_are_one}
use Rattle.statement_set.specs.Set.{IsInEither, IsInFirstAlone, IsOrdered, IsSetOf, most_statements}

abbrev pub as_keys : List Statement → BTreeSet Statement
as_keys list = record { keys = list }

-- a list looked up as a set says what it contains
unfoldable pub holds : List Statement → Statement → Bool
holds list s = contains statement_order (as_keys list) s

pub holds-iff : (list : List Statement) (s : Statement) → IsTrue (holds list s) ↔ Contains list s
unfolding holds
holds-iff list s = btree_set_contains_iff statement_order_total tied_statements_are_one (as_keys list) s

-- ordered lists with the same members are one
pub one_list : (these those : List Statement) → IsOrdered these → IsOrdered those → ((s : Statement) → Contains these s ↔ Contains those s) → these ≡ those
unfolding holds
one_list these those first second same = btree_set_from_contains statement_order_total (as_keys these) (as_keys those) first second alike tied_statements_are_one
  where
    alike : (s : Statement) → holds these s ≡ holds those s
    alike s = both_ways (holds these s) (holds those s) (λ h. (holds-iff those s).1 ((same s).0 ((holds-iff these s).0 h))) (λ h. (holds-iff these s).1 ((same s).1 ((holds-iff those s).0 h)))

-- ---- what a call gives that makes a set

pub same_set : (these those : Statement → Type 0) → ((s : Statement) → these s ↔ those s) → (set : List Statement) → IsSetOf these set → IsSetOf those set
same_set these those same set is = record {
  ordered = is.ordered;
  members = λ s. ((λ h. (same s).0 ((is.members s).0 h)), (λ h. (is.members s).1 ((same s).1 h)));
}

-- what is given of the same statements is the same
pub gives_same : (these those : Statement → Type 0) → ((s : Statement) → these s ↔ those s) → (result : Result (List Statement) SetRefusal) → Gives these result → Gives those result
gives_same these those same (Ok set) (is, small) = (same_set these those same set is, small)
gives_same these those same (Err (TooMany count)) (set, is, long, above) = (set, same_set these those same set is, long, above)
gives_same these those same (Err NoMemory) free = free

-- what is given of a list and of the set of another is the union with that other
pub gives_union : (these those new all : List Statement) → IsSetOf (Contains those) new → IsSetOf (IsInEither these new) all → (result : Result (List Statement) SetRefusal) → Gives (Contains all) result → Gives (IsInEither these those) result
gives_union these those new all others both = gives_same (Contains all) (IsInEither these those) (λ s. (
  (λ h. ⊎_elim (λ here. inl here) (λ there. inr ((others.members s).0 there)) ((both.members s).0 h)),
  (λ h. (both.members s).1 (⊎_elim (λ here. inl here) (λ there. inr ((others.members s).1 there)) h)),
))

-- what is given of the statements that are not in a set is the difference to the list of that set
pub gives_difference : (these those gone kept : List Statement) → IsSetOf (Contains those) gone → IsSetOf (IsInFirstAlone these gone) kept → (result : Result (List Statement) SetRefusal) → Gives (Contains kept) result → Gives (IsInFirstAlone these those) result
gives_difference these those gone kept others rest = gives_same (Contains kept) (IsInFirstAlone these those) (λ s. (
  (λ h. let k : IsInFirstAlone these gone s = (rest.members s).0 h in (k.0, λ g. k.1 ((others.members s).1 g))),
  (λ (inside, out). (rest.members s).1 (inside, λ g. out ((others.members s).0 g))),
))

-- a list that is not too long is refused for want of memory alone
pub refused_for_memory : (list : List Statement) → IsOrdered list → length list ≤ most_statements → (result : Result (List Statement) SetRefusal) → Gives (Contains list) result → IfErr result (λ refusal. refusal ≡ NoMemory)
refused_for_memory list ordered small (Ok set) given = tt
refused_for_memory list ordered small (Err NoMemory) given = refl
refused_for_memory list ordered small (Err (TooMany count)) (set, is, long, above) =
    let same : set ≡ list = one_list set list is.ordered ordered is.members in
    absurd (omega (arith, ap length same))

-- ---- the statements of an ordered list that are not in another

-- whether a statement stays where others go
abbrev pub stays : List Statement → Statement → Bool
stays gone s = not (holds gone s)

staying : (gone : List Statement) (s : Statement) → (Contains gone s → ⊥) → stays gone s ≡ true
staying gone s out = ap not (false_from_ne_true (holds gone s) (λ h. out ((holds-iff gone s).0 h)))

going : (gone : List Statement) (s : Statement) → Contains gone s → stays gone s ≡ false
going gone s inside = ap not ((holds-iff gone s).1 inside)

-- one more statement that goes, and one that stays
pub passed_over : (gone statements : List Statement) (i : ℕ) (s : Statement) → i < length statements → s ≡ get_or statements i s → Contains gone s
    → filter (stays gone) (take i statements) ≡ filter (stays gone) (take (i + 1) statements)
passed_over gone statements i s within is inside =
    sym (filter_more (stays gone) statements i s within ∙ rw (← is, going gone s inside) append_nil)
  where
    append_nil : filter (stays gone) (take i statements) ++ [] ≡ filter (stays gone) (take i statements)
    append_nil = search rules

pub copied : (gone statements : List Statement) (i : ℕ) (s : Statement) → i < length statements → s ≡ get_or statements i s → (Contains gone s → ⊥)
    → filter (stays gone) (take i statements) ++ s ∷ [] ≡ filter (stays gone) (take (i + 1) statements)
copied gone statements i s within is out =
    sym (filter_more (stays gone) statements i s within ∙ rw (← is, staying gone s out) refl)

filtered : (gone statements : List Statement) (s : Statement) → holds (filter (stays gone) statements) s ≡ (stays gone s && holds statements s)
unfolding holds
filtered gone statements s = any-filter_same (λ t. is_eq (statement_order s t)) (stays gone) (stays gone s) (λ t tied. ap (stays gone) (sym (tied_statements_are_one s t ((Equal-is (statement_order s t)).0 tied)))) statements

-- what stays is the first list without the second
pub difference : (gone statements : List Statement) → IsOrdered statements → IsSetOf (IsInFirstAlone statements gone) (filter (stays gone) statements)
difference gone statements ordered = record {
  ordered = IsStrictlySortedBy-filter statement_order (stays gone) statements ordered;
  members = λ s. (there s, back s);
}
  where
    there : (s : Statement) → Contains (filter (stays gone) statements) s → IsInFirstAlone statements gone s
    there s inside =
        let both = and_parts (stays gone s) (holds statements s) (sym (filtered gone statements s) ∙ (holds-iff (filter (stays gone) statements) s).1 inside) in
        ((holds-iff statements s).0 both.1, λ h. not_both (holds gone s) both.0 ((holds-iff gone s).1 h))

    back : (s : Statement) → IsInFirstAlone statements gone s → Contains (filter (stays gone) statements) s
    back s (inside, out) =
        (holds-iff (filter (stays gone) statements) s).0 (filtered gone statements s ∙ and_from (stays gone s) (holds statements s) (staying gone s out) ((holds-iff statements s).1 inside))
