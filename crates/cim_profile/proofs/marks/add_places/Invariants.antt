use Rattle.std.proofs.Common.{◌≡◌, ◌++◌, map, take}
use Rattle.cim_profile.specs.Places.{place_at}
use Rattle.cim_profile.proofs.marks.add_places.Given as goal

abbrev pub invariant-loop-length : goal.invariant-loop-length
invariant-loop-length l = l.places.items ≡ l.fn.places.items ++ map (place_at l.segment l.mark) (take l.length-index l.lengths)
