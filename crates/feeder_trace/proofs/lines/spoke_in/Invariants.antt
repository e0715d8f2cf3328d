use Rattle.std.proofs.Common.{◌≡◌, find, drop}
use Rattle.room_words.specs.Terms.{same_term}
use Rattle.graph_pages.specs.declared.star.Spoke.{Spoke}
use Rattle.feeder_trace.proofs.lines.spoke_in.Given as goal

abbrev pub invariant-loop-spoke : goal.invariant-loop-spoke
invariant-loop-spoke l =
    find (λ (spoke : Spoke). same_term spoke.term l.term) (drop l.spoke-index l.star.spokes) ≡ find (λ (spoke : Spoke). same_term spoke.term l.term) l.star.spokes
