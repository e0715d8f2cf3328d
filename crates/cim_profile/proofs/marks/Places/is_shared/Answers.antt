use Rattle.std.proofs.Common.{rules, ap, sym, subst, ◌∙◌}
use Rattle.std.specs.List.{list_any}
use Rattle.std.specs.List.Sorted.{IsStrictlySortedBy}
use Rattle.std.proofs.lemmas.Iterator.{YieldsList-from_slice, YieldsList-from_take}
use Rattle.std.proofs.lemmas.Iterator.Search.{any_from_yields_List}
use Rattle.std.proofs.lemmas.List.{take_rest}
use Rattle.std.proofs.lemmas.List.Sorted.{IsPartitionPoint-from_clause}
use Rattle.cim_profile.specs.Places.{is_at, is_before, is_other, place_order}
use Rattle.cim_profile.proofs.PlaceOrder.{before_in_front, found_by_two}
use Rattle.cim_profile.proofs.marks.Places.is_shared.Goals as goal

pub returns : goal.returns
returns c =
    let s = c.args.segment.number in
    let n = c.args.length.mm in
    let x = c.args.mark.number in
    let list = c.as_slice-places.result.now in
    let sorted : IsStrictlySortedBy place_order list = subst (IsStrictlySortedBy place_order) (sym c.as_slice-places.ensures.value) c.self.invariant in
    let parts = IsPartitionPoint-from_clause (is_before s n) _ _ c.partition_point-start.ensures.partitioned (before_in_front s n list sorted) (λ a r q k. search rules) in
    any_from_yields_List (is_at s (is_other n x)) _ _ _ c.any.ensures.ran (YieldsList-from_take 2 (YieldsList-from_slice _ cc) c.take.ensures.count) (λ x b q k. search rules)
    ∙ found_by_two s n x list _ c.partition_point-start.result (take_rest list c.partition_point-start.result) c.partition_point-start.ensures.bound sorted parts
    ∙ ap (list_any (is_at s (is_other n x))) (c.as_slice-places.ensures.value ∙ c.self.view_is)
