use Rattle.std.proofs.Common.{◌∙◌, sym}
use Rattle.std.specs.Cmp.{Equal-is}
use Rattle.std.proofs.lemmas.List.Filters.{dedup_is}
use Rattle.std.proofs.lemmas.List.Kept.{IsStrictlySortedBy-dedup, Contains-dedup, Contains-from_dedup}
use Rattle.std.proofs.lemmas.List.Sorted.{Contains-permutation, IsPermutation-sym}
use Rattle.statement_set.proofs.once.sort_once.Goals as goal

pub returns-clause-ordered : goal.returns-clause-ordered
returns-clause-ordered g c = rw (dedup_is _ _ _ c.dedup.ensures.filtered) (IsStrictlySortedBy-dedup g.met.T.Ord.total g.met.T.Ord.matches_eq _ c.sort_unstable.ensures.sorted)

pub returns-clause-same : goal.returns-clause-same
returns-clause-same g c exact x =
    rw (dedup_is _ _ _ c.dedup.ensures.filtered) (
      (λ h. Contains-permutation _ _ x (IsPermutation-sym _ _ c.sort_unstable.ensures.permutation) (Contains-from_dedup _ _ x h)),
      (λ h. Contains-dedup g.met.T.Eq.laws (λ y z e. exact y z ((Equal-is (g.T.Ord.cmp y z)).0 (sym (g.met.T.Ord.matches_eq y z) ∙ e))) _ x (Contains-permutation _ _ x c.sort_unstable.ensures.permutation h)),
    )
