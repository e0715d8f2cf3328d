-- Ordered lists on the way into one: what is merged so far, and what is left of either.
use Rattle.std.proofs.Common.{◌≡◌, ◌↔◌, ◌⊎◌, inl, inr, ⊎_elim, ◌-◌, ◌<◌, ◌≤◌, List, [], ◌∷◌, ◌++◌, Contains, length, take, drop, get_or, ap, sym, subst, subst₂, ◌∙◌, append_assoc, arith}
use Rattle.std.specs.Ordering.{ordering_reverse}
use Rattle.std.specs.List.{AllByRecursion}
use Rattle.std.specs.List.Sorted.{IsStrictlySortedBy}
use Rattle.std.specs.declared.cmp.Ordering.TheVariants.{Less, Equal, Greater}
use Rattle.std.proofs.lemmas.List.{append-nil, take_all}
use Rattle.std.proofs.lemmas.List.Elements.{Contains-append_cases, Contains-append_left, Contains-append_right}
use Rattle.plain_laws.proofs.Each.{each_weaker}
use Rattle.plain_laws.proofs.Members.{contains_cases, contains_first, contains_rest}
use Rattle.cim_words.specs.Order.{statement_order}
use Rattle.cim_words.specs.declared.statement.Statement.{Statement}
use Rattle.cim_words.proofs.Orders.{statement_order_total, tied_statements_are_one}
use Rattle.statement_set.specs.Set.{IsInEither, IsOrdered, IsSetOf}
use Rattle.statement_set.proofs.Members.{same_set}

-- what is merged so far stands before what is left of either list, and with it holds what both lists held
pub record IsMerging (these those done left right : List Statement) : Type 0 where
  pub first : IsOrdered (done ++ left)
  pub second : IsOrdered (done ++ right)
  pub members : (s : Statement) → IsInEither (done ++ left) (done ++ right) s ↔ IsInEither these those s

pub merging_begins : (these those : List Statement) → IsOrdered these → IsOrdered those → IsMerging these those [] these those
merging_begins these those ordered ordered' = record { first = ordered; second = ordered'; members = λ s. ((λ h. h), (λ h. h)) }

other_way : {A B : Type 0} → A ⊎ B → B ⊎ A
other_way (inl a) = inr a
other_way (inr b) = inl b

turned : (these those done left right : List Statement) → IsMerging these those done left right → IsMerging those these done right left
turned these those done left right is = record {
  first = is.second;
  second = is.first;
  members = λ s. ((λ h. other_way ((is.members s).0 (other_way h))), (λ h. other_way ((is.members s).1 (other_way h))));
}

-- ---- the lesser of the first statements goes first

each_between : (P : Statement → Type 0) (x y : Statement) (done xs ys : List Statement) → AllByRecursion P (done ++ x ∷ xs) → AllByRecursion P (done ++ y ∷ ys) → AllByRecursion P (done ++ x ∷ y ∷ ys)
each_between P x y [] xs ys a b = (a.0, b)
each_between P x y (d ∷ done) xs ys a b = (a.0, each_between P x y done xs ys a.1 b.1)

ordered_between : (x y : Statement) → statement_order x y ≡ Less → (done xs ys : List Statement) → IsOrdered (done ++ x ∷ xs) → IsOrdered (done ++ y ∷ ys) → IsOrdered (done ++ x ∷ y ∷ ys)
unfolding IsStrictlySortedBy
ordered_between x y less [] xs ys a b =
    ((less, each_weaker (λ z. statement_order y z ≡ Less) (λ z. statement_order x z ≡ Less) ys (λ z after. statement_order_total.trans x y z less after) b.0), b)
ordered_between x y less (d ∷ done) xs ys a b =
    (each_between (λ z. statement_order d z ≡ Less) x y done xs ys a.0 b.0, ordered_between x y less done xs ys a.1 b.1)

-- with x in front, the second part holds x too, which the first holds already
with_front : (x s : Statement) (done xs rest : List Statement) → IsInEither (done ++ x ∷ xs) (done ++ x ∷ rest) s → IsInEither (done ++ x ∷ xs) (done ++ rest) s
with_front x s done xs rest (inl h) = inl h
with_front x s done xs rest (inr h) = cases (Contains-append_cases done (x ∷ rest) s h)
  where
    later : (x ≡ s) ⊎ Contains rest s → IsInEither (done ++ x ∷ xs) (done ++ rest) s
    later (inl is) = inl (subst (Contains (done ++ x ∷ xs)) is (Contains-append_right done (x ∷ xs) x (contains_first x xs)))
    later (inr there) = inr (Contains-append_right done rest s there)

    cases : Contains done s ⊎ Contains (x ∷ rest) s → IsInEither (done ++ x ∷ xs) (done ++ rest) s
    cases (inl before) = inr (Contains-append_left done rest s before)
    cases (inr there) = later (contains_cases x rest s there)

without_front : (x s : Statement) (done xs rest : List Statement) → IsInEither (done ++ x ∷ xs) (done ++ rest) s → IsInEither (done ++ x ∷ xs) (done ++ x ∷ rest) s
without_front x s done xs rest (inl h) = inl h
without_front x s done xs rest (inr h) = cases (Contains-append_cases done rest s h)
  where
    cases : Contains done s ⊎ Contains rest s → IsInEither (done ++ x ∷ xs) (done ++ x ∷ rest) s
    cases (inl before) = inr (Contains-append_left done (x ∷ rest) s before)
    cases (inr there) = inr (Contains-append_right done (x ∷ rest) s (contains_rest x rest s there))

-- a list that is not empty is its first item and the others
pub parted : (list : List Statement) (x : Statement) → 1 ≤ length list → x ≡ get_or list 0 x → list ≡ x ∷ take (length list - 1) (drop 1 list)
parted [] x some is = absurd (omega arith)
parted (y ∷ ys) x some is =
    let all : length ys ≤ length (y ∷ ys) - 1 = omega arith in
    ap (λ (z : Statement). z ∷ ys) (sym is) ∙ ap (λ (zs : List Statement). x ∷ zs) (sym (take_all (length (y ∷ ys) - 1) ys all))

pub takes_first : (these those done left right xs ys : List Statement) (x y : Statement) → left ≡ x ∷ xs → right ≡ y ∷ ys → statement_order x y ≡ Less → IsMerging these those done left right → IsMerging these those (done ++ x ∷ []) xs right
takes_first these those done left right xs ys x y leads leads' less is = record {
  first = rw (append_assoc, ← leads) is.first;
  second = rw append_assoc (rw leads' (ordered_between x y less done xs ys (rw leads at is.first) (rw leads' at is.second)));
  members = λ s. rw (append_assoc, append_assoc) (
    (λ h. (is.members s).0 (rw leads (with_front x s done xs right h))),
    (λ h. without_front x s done xs right (rw leads at ((is.members s).1 h))),
  );
}

pub takes_second : (these those done left right xs ys : List Statement) (x y : Statement) → left ≡ x ∷ xs → right ≡ y ∷ ys → statement_order x y ≡ Greater → IsMerging these those done left right → IsMerging these those (done ++ y ∷ []) left ys
takes_second these those done left right xs ys x y leads leads' greater is =
    let less : statement_order y x ≡ Less = statement_order_total.antisymm y x ∙ ap ordering_reverse greater in
    turned those these (done ++ y ∷ []) ys left (takes_first those these done right left ys xs y x leads' leads less (turned these those done left right is))

pub takes_both : (these those done left right xs ys : List Statement) (x y : Statement) → left ≡ x ∷ xs → right ≡ y ∷ ys → statement_order x y ≡ Equal → IsMerging these those done left right → IsMerging these those (done ++ x ∷ []) xs ys
takes_both these those done left right xs ys x y leads leads' tied is =
    let leads_too : right ≡ x ∷ ys = leads' ∙ ap (λ (z : Statement). z ∷ ys) (sym (tied_statements_are_one x y tied)) in
    let one = subst₂ (λ (l r : List Statement). IsMerging these those done l r) leads leads_too is in
    record {
      first = rw append_assoc one.first;
      second = rw append_assoc one.second;
      members = λ s. rw (append_assoc, append_assoc) (one.members s);
    }

-- ---- the end, where nothing is left of one list

only_right : (these those done right : List Statement) → IsMerging these those done [] right → IsSetOf (IsInEither these those) (done ++ right)
only_right these those done right is = record {
  ordered = is.second;
  members = λ s. (
    (λ h. (is.members s).0 (inr h)),
    (λ h. ⊎_elim (λ before. Contains-append_left done right s (rw append-nil at before)) (λ there. there) ((is.members s).1 h)),
  );
}

pub merging_ends : (these those done left right : List Statement) → (length left < 1) ⊎ (length right < 1) → IsMerging these those done left right → IsSetOf (IsInEither these those) ((done ++ left) ++ right)
merging_ends these those done [] right none is = rw append-nil (only_right these those done right is)
merging_ends these those done (x ∷ xs) [] none is = rw append-nil (same_set (IsInEither those these) (IsInEither these those) (λ s. (other_way, other_way)) (done ++ x ∷ xs) (only_right those these done (x ∷ xs) (turned these those done (x ∷ xs) [] is)))
merging_ends these those done (x ∷ xs) (y ∷ ys) (inl none) is = absurd (omega arith)
merging_ends these those done (x ∷ xs) (y ∷ ys) (inr none) is = absurd (omega arith)
