use Rattle.std.proofs.Common.{sym, ap, ◌∙◌}
use Rattle.graph_pages.specs.Walks.{line_phases}
use Rattle.feeder_trace.proofs.PartLemmas.{parts_both}
use Rattle.feeder_trace.proofs.gather.count_term.Goals as goal

pub returns-in-Some-on : goal.returns-in-Some-on
returns-in-Some-on c =
    parts_both c.args.graph.now c.args.term c.in-Some.star.now c.in-Some-on.segment c.args.reached c.meet.result c.phases_of_line-phases.result c.args.parts.now c.count.new.parts c.count-in-Some-on.new.parts
    (sym c.in-Some.ensures) c.in-Some-on.is (c.phases_of_line-phases.ensures ∙ ap line_phases c.line_of_segment.ensures.line) c.meet.ensures c.count.ensures c.count-in-Some-on.ensures
