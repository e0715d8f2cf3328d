use Rattle.std.proofs.Common.{◌≡◌, ◌≤◌, ◌<◌, ℕ, List, length, get_or, take, refl, sym, ◌∙◌, subst, Contains, arith, rules}
use Rattle.std.proofs.lemmas.List.{take_all}
use Rattle.std.proofs.lemmas.List.Sorted.{IsNonDecreasingBy-from_sort_by_key, IsPermutation-sym, Contains-permutation}
use Rattle.cim_model.specs.Trace.{Row, Lists}
use Rattle.feeder_trace.proofs.RowLemmas.{merge_more, lists_map}
use Rattle.feeder_trace.proofs.merge.merge.Goals as goal

pub loop-part-preserved : goal.loop-part-preserved
loop-part-preserved c =
    let parts = c.deref-part-items.result.now in
    let rises = IsNonDecreasingBy-from_sort_by_key (λ (row : Row). row.0.number) c.sort_unstable_by_key.new.self.items c.sort_unstable_by_key.ensures.sorted (λ a r f' called. search rules) in (
      merge_more parts c.loop-part.part-index _ _ c.loop-part.rows.items c.add.new.rows.items c.loop-part-test.true refl
          (subst (λ (ps : List Row). (i j : ℕ) (d : Row) → i ≤ j → j < length ps → (get_or ps i d).0.number ≤ (get_or ps j d).0.number) (sym c.deref-part-items.ensures.value) rises)
          (λ row h. c.requires.some row (Contains-permutation c.sort_unstable_by_key.new.self.items c.args.parts.now.items row (IsPermutation-sym c.args.parts.now.items c.sort_unstable_by_key.new.self.items c.sort_unstable_by_key.ensures.permutation)
          (subst (λ (ps : List Row). Contains ps row) c.deref-part-items.ensures.value h)))
          c.loop-part.invariant.0 c.add.ensures.added,
      omega (arith, c.add.ensures.len, c.loop-part.invariant.1),
      omega (arith, c.add.ensures.capacity, c.loop-part.invariant.2),
    )

pub returns-clause-same : goal.returns-clause-same
returns-clause-same c y p =
    let old = c.args.parts.now.items in
    let sorted = c.sort_unstable_by_key.new.self.items in
    let perm = c.sort_unstable_by_key.ensures.permutation in
    let all : take c.loop-part.part-index c.deref-part-items.result.now ≡ sorted = take_all c.loop-part.part-index c.deref-part-items.result.now c.loop-part-test.false ∙ c.deref-part-items.ensures.value in (
      λ l. lists_map sorted old y p (λ row h. Contains-permutation sorted old row (IsPermutation-sym old sorted perm) h) (subst (λ (ps : List Row). Lists ps y p) all (c.loop-part.invariant.0.out y p l)),
      λ l. c.loop-part.invariant.0.into y p (subst (λ (ps : List Row). Lists ps y p) (sym all) (lists_map old sorted y p (λ row h. Contains-permutation old sorted row perm h) l)),
    )
