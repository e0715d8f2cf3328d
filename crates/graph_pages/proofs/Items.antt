-- What is found among items under keys of their own, after those of a key go and after one comes.
use Rattle.std.proofs.Common.{◌≡◌, ℕ, ◌+◌, Bool, true, false, cond, not, List, [], ◌∷◌, ◌++◌, map, Option, None, Some, refl, sym, ap, ◌∙◌, subst, arith}
use Rattle.std.specs.Cmp.{both_ways}
use Rattle.std.specs.List.{AllByRecursion, IsDistinct, sum_by}
use Rattle.std.specs.Option.{option_or}
use Rattle.std.proofs.lemmas.List.Folds.{find-append}
use Rattle.std.proofs.lemmas.List.Sums.{sum_by-cons}
use Rattle.std.proofs.lemmas.Option.{none-some}
use Rattle.graph_pages.specs.Keyed.{item_at, items_but, size_in}

-- ---- choices

-- what is left out anyway
left_out : {X : Type 0} (c : Bool) (a x : Option X) → cond c None x ≡ cond c None (cond c a x)
left_out true a x = refl
left_out false a x = refl

-- a choice between one and the same
no_choice : {X : Type 0} (c : Bool) (x : Option X) → x ≡ cond c x x
no_choice true x = refl
no_choice false x = refl

-- one of two choices at most is made
either : {X : Type 0} (c d : Bool) (a x : Option X) → (c ≡ true → d ≡ true → ⊥) → cond d a (cond c None x) ≡ cond c None (cond d a x)
either true true a x h = absurd (h refl refl)
either true false a x h = refl
either false d a x h = refl

-- what is the last choice is the first where the others give nothing
chosen_last : {X : Type 0} (c : Bool) (a x : Option X) → (c ≡ true → x ≡ None) → option_or x (cond c a None) ≡ cond c a x
chosen_last true a x none = ap (λ o. option_or o a) (none refl)
chosen_last false a None none = refl
chosen_last false a (Some x) none = refl

chosen_over : {X : Type 0} (c : Bool) (a x : Option X) → cond c a (cond c None x) ≡ cond c a x
chosen_over true a x = refl
chosen_over false a x = refl

-- where nothing is found, the first is not it
none_first : {X : Type 0} (c : Bool) (x : X) (rest : Option X) → cond c (Some x) rest ≡ None → (c ≡ false) × (rest ≡ None)
none_first true x rest none = absurd (none-some x (sym none))
none_first false x rest none = (refl, none)

pub not_true : (b : Bool) → (b ≡ true → ⊥) → b ≡ false
not_true true h = absurd (h refl)
not_true false h = refl

module _ {T K : Type 0} (key : T → K) (same : K → K → Bool) (itself : (k : K) → same k k ≡ true) (exact : (a b : K) → same a b ≡ true → a ≡ b) where
  pub turned : (a b : K) → same a b ≡ same b a
  turned a b =
      both_ways (same a b) (same b a) (λ h. subst (λ (c : K). same c a ≡ true) (exact a b h) (itself a)) (λ h. subst (λ (c : K). same c b ≡ true) (exact b a h) (itself b))

  -- where no key is k, nothing is found
  pub none_of : (k : K) (ts : List T) → AllByRecursion (λ n. same k n ≡ false) (map key ts) → item_at key same k ts ≡ None
  none_of k [] apart = refl
  none_of k (t ∷ ts) apart = ap (λ b. cond b (Some t) (item_at key same k ts)) (turned (key t) k ∙ apart.0) ∙ none_of k ts apart.1

  -- ---- after the items of a key go

  found_but_step : (k q : K) (t : T) (ts : List T) (b : Bool) → same (key t) k ≡ b → item_at key same q (items_but key same k ts) ≡ cond (same k q) None (item_at key same q ts)
      → item_at key same q (cond (not b) (t ∷ items_but key same k ts) (items_but key same k ts)) ≡ cond (same k q) None (cond (same (key t) q) (Some t) (item_at key same q ts))
  found_but_step k q t ts true is rest =
      rest ∙ left_out (same k q) (Some t) (item_at key same q ts)
      ∙ ap (λ (other : K). cond (same k q) None (cond (same other q) (Some t) (item_at key same q ts))) (sym (exact (key t) k is))
  found_but_step k q t ts false is rest =
      ap (cond (same (key t) q) (Some t)) rest
      ∙ either (same k q) (same (key t) q) (Some t) (item_at key same q ts) (λ one other.
      let e : key t ≡ k = exact (key t) q other ∙ sym (exact k q one) in
      let yes : same (key t) k ≡ true = subst (λ (o : K). same (key t) o ≡ true) e (itself (key t)) in
      let apart : same (key t) k ≡ false = is in
      cc)

  pub found_but : (k q : K) (ts : List T) → item_at key same q (items_but key same k ts) ≡ cond (same k q) None (item_at key same q ts)
  found_but k q [] = no_choice (same k q) None
  found_but k q (t ∷ ts) = found_but_step k q t ts (same (key t) k) refl (found_but k q ts)

  pub gone : (k : K) (ts : List T) → item_at key same k (items_but key same k ts) ≡ None
  gone k ts = found_but k k ts ∙ ap (λ b. cond b None (item_at key same k ts)) (itself k)

  -- what holds of all keys, or of all items, holds of those that are kept
  keys_but_step : (P : K → Type 0) (t : T) (ts : List T) (b : Bool) → P (key t) → AllByRecursion P (map key ts) → AllByRecursion P (map key (cond b (t ∷ ts) ts))
  keys_but_step P t ts true one all = (one, all)
  keys_but_step P t ts false one all = all

  keys_but : (P : K → Type 0) (k : K) (ts : List T) → AllByRecursion P (map key ts) → AllByRecursion P (map key (items_but key same k ts))
  keys_but P k [] all = tt
  keys_but P k (t ∷ ts) all = keys_but_step P t (items_but key same k ts) (not (same (key t) k)) all.0 (keys_but P k ts all.1)

  all_but_step : (P : T → Type 0) (t : T) (ts : List T) (b : Bool) → P t → AllByRecursion P ts → AllByRecursion P (cond b (t ∷ ts) ts)
  all_but_step P t ts true one all = (one, all)
  all_but_step P t ts false one all = all

  pub all_but : (P : T → Type 0) (k : K) (ts : List T) → AllByRecursion P ts → AllByRecursion P (items_but key same k ts)
  all_but P k [] all = tt
  all_but P k (t ∷ ts) all = all_but_step P t (items_but key same k ts) (not (same (key t) k)) all.0 (all_but P k ts all.1)

  differ_but_step : (t : T) (ts : List T) (b : Bool) → AllByRecursion (λ n. same (key t) n ≡ false) (map key ts) → IsDistinct same (map key ts) → IsDistinct same (map key (cond b (t ∷ ts) ts))
  unfolding IsDistinct
  differ_but_step t ts true apart all = (apart, all)
  differ_but_step t ts false apart all = all

  pub differ_but : (k : K) (ts : List T) → IsDistinct same (map key ts) → IsDistinct same (map key (items_but key same k ts))
  unfolding IsDistinct
  differ_but k [] all = tt
  differ_but k (t ∷ ts) all = differ_but_step t (items_but key same k ts) (not (same (key t) k)) (keys_but (λ n. same (key t) n ≡ false) k ts all.0) (differ_but k ts all.1)

  -- ---- the sizes of what goes

  kept_step : (b : Bool) (t : T) (kept ts : List T) (found : Option T) → cond b (Some t) found ≡ None → (found ≡ None → kept ≡ ts) → cond (not b) (t ∷ kept) kept ≡ t ∷ ts
  kept_step true t kept ts found none rest = absurd (none-some t (sym none))
  kept_step false t kept ts found none rest = ap (λ (xs : List T). t ∷ xs) (rest none)

  -- where nothing is of a key, all is kept
  kept_all : (k : K) (ts : List T) → item_at key same k ts ≡ None → items_but key same k ts ≡ ts
  kept_all k [] none = refl
  kept_all k (t ∷ ts) none = kept_step (same (key t) k) t (items_but key same k ts) ts (item_at key same k ts) none (kept_all k ts)

  size_but_step : (size : T → ℕ) (k : K) (t : T) (ts : List T) (b : Bool) → same (key t) k ≡ b → AllByRecursion (λ n. same (key t) n ≡ false) (map key ts) → sum_by size (items_but key same k ts) + size_in size (item_at key same k ts) ≡ sum_by size ts
      → sum_by size (cond (not b) (t ∷ items_but key same k ts) (items_but key same k ts)) + size_in size (cond b (Some t) (item_at key same k ts)) ≡ sum_by size (t ∷ ts)
  size_but_step size k t ts true is apart rest =
      let alone : item_at key same k ts ≡ None = ap (λ (other : K). item_at key same other ts) (sym (exact (key t) k is)) ∙ none_of (key t) ts apart in
      let kept : sum_by size (items_but key same k ts) ≡ sum_by size ts = ap (sum_by size) (kept_all k ts alone) in
      let sized : size_in size (Some t) ≡ size t = refl in
      let whole = sum_by-cons size t ts in
      omega arith
  size_but_step size k t ts false is apart rest =
      let whole = sum_by-cons size t ts in
      let part = sum_by-cons size t (items_but key same k ts) in
      omega arith

  pub size_but : (size : T → ℕ) (k : K) (ts : List T) → IsDistinct same (map key ts) → sum_by size (items_but key same k ts) + size_in size (item_at key same k ts) ≡ sum_by size ts
  unfolding IsDistinct
  size_but size k [] all = refl
  size_but size k (t ∷ ts) all = size_but_step size k t ts (same (key t) k) refl all.0 (size_but size k ts all.1)

  -- ---- after one comes

  pub found_push : (t : T) (q : K) (ts : List T) → item_at key same (key t) ts ≡ None → item_at key same q (ts ++ t ∷ []) ≡ cond (same (key t) q) (Some t) (item_at key same q ts)
  found_push t q ts none =
      find-append (λ (item : T). same (key item) q) ts (t ∷ [])
      ∙ chosen_last (same (key t) q) (Some t) (item_at key same q ts) (λ is. ap (λ (other : K). item_at key same other ts) (sym (exact (key t) q is)) ∙ none)

  pub found_put : (t : T) (q : K) (ts : List T) → item_at key same q (items_but key same (key t) ts ++ t ∷ []) ≡ cond (same (key t) q) (Some t) (item_at key same q ts)
  found_put t q ts =
      found_push t q (items_but key same (key t) ts) (gone (key t) ts)
      ∙ ap (cond (same (key t) q) (Some t)) (found_but (key t) q ts)
      ∙ chosen_over (same (key t) q) (Some t) (item_at key same q ts)

  pub all_push : (P : T → Type 0) (t : T) (ts : List T) → AllByRecursion P ts → P t → AllByRecursion P (ts ++ t ∷ [])
  all_push P t [] all one = (one, tt)
  all_push P t (u ∷ ts) all one = (all.0, all_push P t ts all.1 one)

  keys_push : (P : K → Type 0) (t : T) (ts : List T) → AllByRecursion P (map key ts) → P (key t) → AllByRecursion P (map key (ts ++ t ∷ []))
  keys_push P t [] all one = (one, tt)
  keys_push P t (u ∷ ts) all one = (all.0, keys_push P t ts all.1 one)

  pub differ_push : (t : T) (ts : List T) → IsDistinct same (map key ts) → item_at key same (key t) ts ≡ None → IsDistinct same (map key (ts ++ t ∷ []))
  unfolding IsDistinct
  differ_push t [] all none = (tt, tt)
  differ_push t (u ∷ ts) all none =
      let first = none_first (same (key u) (key t)) u (item_at key same (key t) ts) none in
      (keys_push (λ n. same (key u) n ≡ false) t ts all.0 first.0, differ_push t ts all.1 first.1)

  -- items of different keys: nothing before one of them has its key
  before_step : (t y : T) (ys : List T) → same (key y) (key t) ≡ false → item_at key same (key t) ys ≡ None → item_at key same (key t) (y ∷ ys) ≡ None
  before_step t y ys apart rest = ap (λ b. cond b (Some y) (item_at key same (key t) ys)) apart ∙ rest

  among : (P : K → Type 0) (t : T) (ys ts : List T) → AllByRecursion P (map key (ys ++ t ∷ ts)) → P (key t)
  among P t [] ts all = all.0
  among P t (y ∷ ys) ts all = among P t ys ts all.1

  pub none_before : (t : T) (ys ts : List T) → IsDistinct same (map key (ys ++ t ∷ ts)) → item_at key same (key t) ys ≡ None
  unfolding IsDistinct
  none_before t [] ts all = refl
  none_before t (y ∷ ys) ts all = before_step t y ys (among (λ n. same (key y) n ≡ false) t ys ts all.0) (none_before t ys ts all.1)
