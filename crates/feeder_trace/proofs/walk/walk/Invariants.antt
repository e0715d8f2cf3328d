use Rattle.std.proofs.Common.{◌≡◌, ◌+◌, length}
use Rattle.feeder_trace.specs.Spread.{IsOver}
use Rattle.feeder_trace.specs.Search.{unmarked}
use Rattle.feeder_trace.proofs.WalkLemmas.{IsWalk}
use Rattle.feeder_trace.proofs.walk.walk.Given as goal

abbrev pub invariant-loop-term : goal.invariant-loop-term
invariant-loop-term l =
    (l.search.graph ≡ l.fn.search.graph) × (l.search.most ≡ l.fn.search.most) × IsWalk l.graph l.star.id.number l.fn.phases l.search × IsOver l.graph l.hubs l.search

abbrev pub decreases-loop-term : goal.decreases-loop-term
decreases-loop-term l = unmarked l.search + length l.search.pending
