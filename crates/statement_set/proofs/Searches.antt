-- Searches in an ordered list of statements.
use Rattle.std.proofs.Common.{◌≡◌, ◌↔◌, ℕ, ◌+◌, ◌<◌, ◌≤◌, List, length, get_or, Contains, IsTrue, Result, Ok, Err, false, refl, sym, ap, subst, ◌∙◌, arith, inl, inr, ◌⊎◌}
use Rattle.std.specs.List.Sorted.{IsSortedBy, IsStrictlySortedBy, IsBinarySearchResult, IsSearchInRange, IsPartitionPoint}
use Rattle.std.specs.Ordering.{is_lt, ordering_reverse}
use Rattle.std.specs.Result.{is_ok}
use Rattle.std.specs.declared.cmp.Ordering.{Ordering}
use Rattle.std.specs.declared.cmp.Ordering.TheVariants.{Less, Equal, Greater}
use Rattle.std.proofs.lemmas.Bool.{false≢true, cases_lt}
use Rattle.std.proofs.lemmas.Cmp.{tied_itself}
use Rattle.std.proofs.lemmas.List.Sorted.{searchable_from_sorted}
use Rattle.std.proofs.lemmas.Map.Keys.{Less-from_sorted}
use Rattle.cim_words.specs.Order.{statement_order}
use Rattle.cim_words.specs.declared.statement.Statement.{Statement}
use Rattle.cim_words.proofs.Orders.{statement_order_total, tied_statements_are_one}
use Rattle.statement_set.specs.Set.{IsOrdered}

-- an order that answers as the order of statements does orders as it
pub ordered_alike : (R : Statement → Statement → Ordering) → ((s t : Statement) → R s t ≡ statement_order s t) → (list : List Statement) → IsStrictlySortedBy R list → IsOrdered list
ordered_alike R same list = subst (λ (T : Statement → Statement → Ordering). IsStrictlySortedBy T list) (λ i s t. same s t i)

never_before : (o : Ordering) → o ≡ Less → is_lt (ordering_reverse o) ≡ false
never_before o h = ap (λ (p : Ordering). is_lt (ordering_reverse p)) h

sorted : (list : List Statement) → IsOrdered list → IsSortedBy (λ s t. is_lt (statement_order s t)) list
sorted list ordered k d low below =
    let next : k < k + 1 = omega arith in
    let less : statement_order (get_or list k d) (get_or list (k + 1) d) ≡ Less = Less-from_sorted statement_order list k (k + 1) d ordered next below in
    ap is_lt (statement_order_total.antisymm (get_or list (k + 1) d) (get_or list k d)) ∙ never_before (statement_order (get_or list k d) (get_or list (k + 1) d)) less

found_here : (list : List Statement) (s : Statement) (r : Result ℕ ℕ) → IsSearchInRange r (length list) → IsBinarySearchResult (λ t. statement_order t s) list r → IsOrdered list → IsTrue (is_ok r) ↔ Contains list s
found_here list s (Ok i) within at ordered = ((λ _. (i, within, tied_statements_are_one _ _ (at s))), (λ _. refl))
found_here list s (Err i) within at ordered = (
  (λ h. absurd (false≢true h)),
  λ (k, below, is). absurd (never k below is (cases_lt k i)),
)
  where
    parts : IsPartitionPoint (λ t. statement_order t s ≡ Less) (λ t. statement_order t s ≡ Greater) list i
    parts = at (searchable_from_sorted statement_order_total (λ (t : Statement). t) list s (sorted list ordered))

    tied : (k : ℕ) → get_or list k s ≡ s → statement_order (get_or list k s) s ≡ Equal
    tied k is = subst (λ (t : Statement). statement_order t s ≡ Equal) (sym is) (tied_itself statement_order_total s)

    never : (k : ℕ) → k < length list → get_or list k s ≡ s → (k < i) ⊎ (i ≤ k) → ⊥
    never k below is (inl before) = let e : statement_order (get_or list k s) s ≡ Equal = tied k is in let f : statement_order (get_or list k s) s ≡ Less = parts.0 k s (omega arith) before in let g : Equal ≡ Less = sym e ∙ f in cc
    never k below is (inr after) = let e : statement_order (get_or list k s) s ≡ Equal = tied k is in let f : statement_order (get_or list k s) s ≡ Greater = parts.1 k s after below in let g : Equal ≡ Greater = sym e ∙ f in cc

-- a search finds a statement where the list holds it
pub found : (R : Statement → Statement → Ordering) → ((s t : Statement) → R s t ≡ statement_order s t) → (list : List Statement) (s : Statement) (r : Result ℕ ℕ)
    → IsSearchInRange r (length list) → IsBinarySearchResult (λ t. R t s) list r → IsOrdered list → IsTrue (is_ok r) ↔ Contains list s
found R same list s r within at ordered = found_here list s r within (subst (λ (T : Statement → Statement → Ordering). IsBinarySearchResult (λ t. T t s) list r) (λ i t u. same t u i) at) ordered
