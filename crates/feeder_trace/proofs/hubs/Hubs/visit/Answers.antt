use Rattle.feeder_trace.proofs.HubRoomLemmas.{visit_numbered}
use Rattle.feeder_trace.proofs.hubs.Hubs.visit.Goals as goal

pub returns : goal.returns
returns c =
    visit_numbered c.self.inside c.args.self.now c.number-index.new.self c.self.view_is c.args.hub c.args.phases c.without-left.result c.index-before.result.now c.join.result c.number-index.result c.number-index.ensures
    c.index-before.ensures c.without-left.ensures c.join.ensures
