use Rattle.std.proofs.Common.{refl}
use Rattle.feeder_trace.proofs.OverLemmas.{among_hub, hub_marks, hub_nothing, over_kept, over_more}
use Rattle.feeder_trace.specs.Spread.{AmongMembers}
use Rattle.feeder_trace.proofs.spread.over_hub.Goals as goal

pub returns-then-is_empty-clause-marked : goal.returns-then-is_empty-clause-marked
returns-then-is_empty-clause-marked c =
    hub_marks c.args.hubs.now.graph c.args.hub c.args.terms.now c.requires.terms c.args.hubs.now c.visit-left.new.self c.args.phases c.visit-left.result c.args.search.now c.args.search.now c.requires.over c.visit-left.ensures
    (hub_nothing c.args.hubs.now.graph c.args.hub c.visit-left.result c.args.search.now (c.if-is_empty.ensures.phases.0 refl))

pub returns-then-is_empty-clause-over : goal.returns-then-is_empty-clause-over
returns-then-is_empty-clause-over c =
    over_more c.args.hubs.now.graph c.args.hubs.now c.visit-left.new.self c.args.hub c.args.phases c.visit-left.result c.args.search.now c.args.search.now c.requires.over c.visit-left.ensures
    (hub_nothing c.args.hubs.now.graph c.args.hub c.visit-left.result c.args.search.now (c.if-is_empty.ensures.phases.0 refl))

pub returns-clause-marked : goal.returns-clause-marked
returns-clause-marked c =
    hub_marks c.args.hubs.now.graph c.args.hub c.args.terms.now c.requires.terms c.args.hubs.now c.visit-left.new.self c.args.phases c.visit-left.result c.args.search.now c.reach_members-2.new.search c.requires.over c.visit-left.ensures
    (among_hub c.args.hubs.now.graph c.args.hub c.args.terms.now c.requires.terms c.visit-left.result c.args.search.now c.reach_members-2.new.search c.reach_members-2.ensures)

pub returns-clause-over : goal.returns-clause-over
returns-clause-over c =
    over_more c.args.hubs.now.graph c.args.hubs.now c.visit-left.new.self c.args.hub c.args.phases c.visit-left.result c.args.search.now c.reach_members-2.new.search c.requires.over c.visit-left.ensures
    (among_hub c.args.hubs.now.graph c.args.hub c.args.terms.now c.requires.terms c.visit-left.result c.args.search.now c.reach_members-2.new.search c.reach_members-2.ensures)
