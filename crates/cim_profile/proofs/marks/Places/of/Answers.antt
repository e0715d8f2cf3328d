use Rattle.std.proofs.Common.{◌∙◌, sym, ap, ◌||◌, Bool}
use Rattle.std.specs.List.{list_any}
use Rattle.std.proofs.lemmas.List.Filters.{dedup_is}
use Rattle.std.proofs.lemmas.List.Folds.{list_any-append}
use Rattle.std.proofs.lemmas.List.Kept.{IsStrictlySortedBy-dedup}
use Rattle.std.proofs.lemmas.List.Sorted.{list_any-IsPermutation}
use Rattle.plain_laws.proofs.Tests.{any_dedup}
use Rattle.cim_profile.specs.Places.{is_at, any_mark}
use Rattle.cim_profile.specs.declared.mark_kind.MarkKind.TheVariants.{Cut}
use Rattle.cim_profile.proofs.PlaceOrder.{place_order_total, places_same, places_tie, same_place}
use Rattle.cim_profile.proofs.marks.Places.of.Goals as goal

pub invariant_of-result : goal.invariant_of-result
invariant_of-result c = rw (dedup_is _ _ _ c.dedup.ensures.filtered) (IsStrictlySortedBy-dedup place_order_total places_tie _ c.sort_unstable.ensures.sorted)

pub returns : goal.returns
returns c s test =
    let m = c.args.facts.now.statements.now in
    let sorted = c.sort_unstable.new.self.items in
    let cuts = c.in_ok-places.places.items in
    ap (list_any (is_at s test)) (dedup_is same_place sorted _ c.dedup.ensures.filtered)
    ∙ any_dedup same_place places_same (is_at s test) sorted
    ∙ sym (list_any-IsPermutation (is_at s test) _ sorted c.sort_unstable.ensures.permutation)
    ∙ ap (list_any (is_at s test)) c.in_ok-extend_from_slice.ensures.items
    ∙ list_any-append (is_at s test) cuts c.deref.result.now
    ∙ rw (c.deref.ensures.value, c.in_ok-places.ensures s test) (ap (λ (b : Bool). any_mark m Cut s test || b) (c.in_ok-clamps.ensures s test))
