use Rattle.std.proofs.Common.{sym}
use Rattle.feeder_trace.specs.Spread.{PassedFrom}
use Rattle.feeder_trace.proofs.OverLemmas.{over_kept}
use Rattle.feeder_trace.proofs.SpreadLemmas.{joined_marks}
use Rattle.feeder_trace.proofs.spread.spread.Goals as goal

pub returns-clause-marked : goal.returns-clause-marked
returns-clause-marked c =
    joined_marks c.args.graph.now c.args.term c.args.phases c.in-Some.star.now c.args.search.now c.at_place.new.search c.along_line.new.search c.through_star.new.search (sym c.in-Some.ensures)
    c.at_place.ensures.marked c.along_line.ensures.marked c.through_star.ensures

pub returns-clause-over : goal.returns-clause-over
returns-clause-over c =
    over_kept c.args.graph.now c.along_line.new.hubs (PassedFrom c.in-Some.star.now c.args.term c.args.phases) c.along_line.new.search c.through_star.new.search c.along_line.ensures.over c.through_star.ensures
