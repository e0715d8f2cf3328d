use Rattle.std.proofs.Common.{List, sym, subst}
use Rattle.std.specs.List.Sorted.{IsStrictlySortedBy}
use Rattle.cim_profile.specs.Places.{place_order}
use Rattle.cim_profile.specs.declared.marks.Place.{Place}
use Rattle.cim_profile.proofs.PlaceOrder.{none_in_order}
use Rattle.cim_profile.proofs.marks.Places.unknown.Goals as goal

pub invariant_of-result : goal.invariant_of-result
invariant_of-result c =
    let P : List Place → Type 0 = λ places. IsStrictlySortedBy place_order places in
    subst P (sym c.new.ensures.items) none_in_order
