-- A difference leaves one model, or is refused for one reason.
use Rattle.std.proofs.Common.{◌≡◌, ◌↔◌, ◌≤◌, ◌<◌, ℕ, List, length, Contains, None, Some, ap, sym, ◌∙◌, subst, arith}
use Rattle.cim_model.specs.Profile.{IsFaultless}
use Rattle.cim_profile.specs.FirstBreak.{IsFirstBreak}
use Rattle.cim_words.specs.declared.identifier.Id.{Id}
use Rattle.cim_words.specs.declared.statement.Statement.{Statement}
use Rattle.cutover.specs.Judgement.{IsAccepted, IsRefused, Leaves}
use Rattle.cutover.proofs.Firsts.{none_missing, one_missing}
use Rattle.cutover.proofs.OneAnswer.{none_lost, one_break, one_lost}
use Rattle.room_words.specs.Differences.{Changes}
use Rattle.room_words.specs.declared.diff_refusal.DiffRefusal.{DiffRefusal}
use Rattle.room_words.specs.declared.diff_refusal.DiffRefusal.TheVariants as refusal
use Rattle.room_words.specs.declared.overlay.Overlay.{Overlay}
use Rattle.statement_set.specs.Set.{IsOrdered, most_statements}
use Rattle.temporary.specs.Lost.{IsFirstLost}

-- one list is the set of some statements
abbrev pub SetsAreOne : Type 0
SetsAreOne = (these those : List Statement) → IsOrdered these → IsOrdered those → ((s : Statement) → Contains these s ↔ Contains those s) → these ≡ those

module _ (one_set : SetsAreOne) (m : List Statement) (o : Overlay) (d : Changes) where
  pub one_result : (a b : List Statement) → Leaves m d a → Leaves m d b → a ≡ b
  one_result a b is is' =
      one_set a b is.1.ordered is'.1.ordered
      (λ s. (λ there. (is'.1.members s).1 ((is.1.members s).0 there), λ there. (is.1.members s).1 ((is'.1.members s).0 there)))

  -- what a difference leaves is too large, breaks a rule or does not bear the overlay, or none of these
  small_or_large : (a b : List Statement) (count : ℕ) → Leaves m d a → Leaves m d b → length a ≤ most_statements → length b ≡ count → most_statements < count → ⊥
  small_or_large a b count is is' small counted large =
      let same : length a ≡ length b = ap length (one_result a b is is') in
      omega arith

  sound_or_broken : (a b : List Statement) (rule : ℕ) (x : Id) → Leaves m d a → Leaves m d b → IsFaultless a → IsFirstBreak b (Some (record { rule = rule; subject = x })) → ⊥
  sound_or_broken a b rule x is is' sound broken = subst IsFaultless (one_result a b is is') sound rule x.number broken.0

  -- no model is left where the difference is refused
  pub not_both : (a : List Statement) (why : DiffRefusal) → IsAccepted m o d a → IsRefused m o d why → ⊥
  not_both a (refusal.Precondition n) is denied = none_missing m d.pre n is.0.0.0 denied
  not_both a (refusal.Reverse n) is denied = none_missing m d.rev n is.0.0.1 denied.1
  not_both a (refusal.TooMany count) is denied = small_or_large a denied.0 count is.0 denied.1 is.1 denied.2 denied.3
  not_both a (refusal.Profile rule x) is denied = sound_or_broken a denied.0 rule x is.0 denied.1 is.2 denied.3
  not_both a (refusal.Place x) is denied = none_lost denied.0 o x (subst (λ (b : List Statement). IsFirstLost b o None) (one_result a denied.0 is.0 denied.1) is.3) denied.4

  one_count : (a b : List Statement) (n k : ℕ) → Leaves m d a → Leaves m d b → length a ≡ n → length b ≡ k → n ≡ k
  one_count a b n k is is' counted counted' = sym counted ∙ ap length (one_result a b is is') ∙ counted'

  one_profile : (a b : List Statement) (r q : ℕ) (x y : Id) → Leaves m d a → Leaves m d b → IsFirstBreak a (Some (record { rule = r; subject = x }))
      → IsFirstBreak b (Some (record { rule = q; subject = y })) → refusal.Profile r x ≡ refusal.Profile q y
  one_profile a b r q x y is is' first first' =
      let both = one_break b r q x y (subst (λ (c : List Statement). IsFirstBreak c (Some (record { rule = r; subject = x }))) (one_result a b is is') first) first' in
      let rules : r ≡ q = both.0 in
      let subjects : x ≡ y = both.1 in
      cc

  one_id : (a b : List Statement) (x y : Id) → Leaves m d a → Leaves m d b → IsFirstLost a o (Some x) → IsFirstLost b o (Some y) → x ≡ y
  one_id a b x y is is' first first' = one_lost b o x y (subst (λ (c : List Statement). IsFirstLost c o (Some x)) (one_result a b is is') first) first'

  -- two refusals that both hold are one
  pub one_refusal : (why other : DiffRefusal) → IsRefused m o d why → IsRefused m o d other → why ≡ other
  one_refusal (refusal.Precondition n) (refusal.Precondition k) a b = ap refusal.Precondition (one_missing m d.pre n k a b)
  one_refusal (refusal.Precondition n) (refusal.Reverse k) a b = absurd (none_missing m d.pre n b.0 a)
  one_refusal (refusal.Precondition n) (refusal.TooMany count) a b = absurd (none_missing m d.pre n b.1.0.0 a)
  one_refusal (refusal.Precondition n) (refusal.Profile rule x) a b = absurd (none_missing m d.pre n b.1.0.0 a)
  one_refusal (refusal.Precondition n) (refusal.Place x) a b = absurd (none_missing m d.pre n b.1.0.0 a)
  one_refusal (refusal.Reverse n) (refusal.Precondition k) a b = absurd (none_missing m d.pre k a.0 b)
  one_refusal (refusal.Reverse n) (refusal.Reverse k) a b = ap refusal.Reverse (one_missing m d.rev n k a.1 b.1)
  one_refusal (refusal.Reverse n) (refusal.TooMany count) a b = absurd (none_missing m d.rev n b.1.0.1 a.1)
  one_refusal (refusal.Reverse n) (refusal.Profile rule x) a b = absurd (none_missing m d.rev n b.1.0.1 a.1)
  one_refusal (refusal.Reverse n) (refusal.Place x) a b = absurd (none_missing m d.rev n b.1.0.1 a.1)
  one_refusal (refusal.TooMany count) (refusal.Precondition k) a b = absurd (none_missing m d.pre k a.1.0.0 b)
  one_refusal (refusal.TooMany count) (refusal.Reverse k) a b = absurd (none_missing m d.rev k a.1.0.1 b.1)
  one_refusal (refusal.TooMany n) (refusal.TooMany k) a b = ap refusal.TooMany (one_count a.0 b.0 n k a.1 b.1 a.2 b.2)
  one_refusal (refusal.TooMany count) (refusal.Profile rule x) a b = absurd (small_or_large b.0 a.0 count b.1 a.1 b.2 a.2 a.3)
  one_refusal (refusal.TooMany count) (refusal.Place x) a b = absurd (small_or_large b.0 a.0 count b.1 a.1 b.2 a.2 a.3)
  one_refusal (refusal.Profile rule x) (refusal.Precondition k) a b = absurd (none_missing m d.pre k a.1.0.0 b)
  one_refusal (refusal.Profile rule x) (refusal.Reverse k) a b = absurd (none_missing m d.rev k a.1.0.1 b.1)
  one_refusal (refusal.Profile rule x) (refusal.TooMany count) a b = absurd (small_or_large a.0 b.0 count a.1 b.1 a.2 b.2 b.3)
  one_refusal (refusal.Profile r x) (refusal.Profile q y) a b = one_profile a.0 b.0 r q x y a.1 b.1 a.3 b.3
  one_refusal (refusal.Profile rule x) (refusal.Place y) a b = absurd (sound_or_broken b.0 a.0 rule x b.1 a.1 b.3 a.3)
  one_refusal (refusal.Place x) (refusal.Precondition k) a b = absurd (none_missing m d.pre k a.1.0.0 b)
  one_refusal (refusal.Place x) (refusal.Reverse k) a b = absurd (none_missing m d.rev k a.1.0.1 b.1)
  one_refusal (refusal.Place x) (refusal.TooMany count) a b = absurd (small_or_large a.0 b.0 count a.1 b.1 a.2 b.2 b.3)
  one_refusal (refusal.Place x) (refusal.Profile rule y) a b = absurd (sound_or_broken a.0 b.0 rule y a.1 b.1 a.3 b.3)
  one_refusal (refusal.Place x) (refusal.Place y) a b = ap refusal.Place (one_id a.0 b.0 x y a.1 b.1 a.4 b.4)
