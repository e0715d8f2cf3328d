use Rattle.std.proofs.Common.{arith}
use Rattle.graph_pages.proofs.Places.{members_same, ones}
use Rattle.graph_pages.proofs.graph.Graph.build.Goals as goal

pub invariant_of-maps : goal.invariant_of-maps
invariant_of-maps g c = (
  omega (arith, c.in_ok-counts.ensures.spokes, c.in_ok-counts-2.ensures.spokes, c.in_ok-counts-3.ensures.spokes),
  omega (arith, ones c.in_ok-places.places, c.in_ok-counts.ensures.hubs, c.in_ok-counts-2.ensures.hubs, c.in_ok-counts-3.ensures.hubs),
)

pub returns-clause-places : goal.returns-clause-places
returns-clause-places g c = members_same c.in_ok-places.places c.args.places.items c.in_ok-places.ensures.found
