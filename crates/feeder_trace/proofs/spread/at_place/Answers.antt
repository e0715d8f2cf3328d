use Rattle.std.proofs.Common.{Some, sym, ◌∙◌, subst}
use Rattle.graph_pages.specs.Graph.{GraphView}
use Rattle.feeder_trace.specs.Hubs.{IsHub}
use Rattle.feeder_trace.specs.declared.hub.Hub.TheVariants.{Place}
use Rattle.feeder_trace.proofs.OverLemmas.{place_empty, place_of}
use Rattle.feeder_trace.proofs.SpreadLemmas.{place_is}
use Rattle.feeder_trace.proofs.spread.at_place.Goals as goal

pub returns-in_default-members-clause-marked : goal.returns-in_default-members-clause-marked
returns-in_default-members-clause-marked c =
    place_of c.args.graph.now c.args.term c.args.phases c.in-Some-at.place c.args.search.now c.args.search.now
    (place_is c.args.graph.now c.args.term c.args.star.now (Some c.in-Some.spoke) c.requires.star c.in-Some.ensures ∙ c.in-Some-at.is)
    (place_empty c.args.graph.now c.in-Some-at.place c.args.phases c.args.search.now (sym c.in_default-members.ensures))

pub over_hub-requires-clause-hub : goal.over_hub-requires-clause-hub
over_hub-requires-clause-hub c =
    subst (λ (g : GraphView). IsHub g (Place c.in-Some-at.place)) (sym c.requires.over.same_graph) (c.in-Some-members.members.now, sym c.in-Some-members.ensures)
