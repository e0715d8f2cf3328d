use Rattle.std.proofs.Common.{sym, ◌∙◌, option_map}
use Rattle.feeder_trace.specs.Spread.{shown_line}
use Rattle.feeder_trace.proofs.SpreadLemmas.{segment_phases}
use Rattle.feeder_trace.proofs.lines.phases_of_term.Goals as goal

pub returns-in-OfSegment : goal.returns-in-OfSegment
returns-in-OfSegment c =
    c.phases_of_line.ensures
    ∙ sym (segment_phases c.args.graph.now c.args.term c.in-Some.star.now c.in-Some-spoke_in.spoke (option_map shown_line c.line_under.result) (sym c.in-Some.ensures) c.in-Some-spoke_in.ensures c.in-OfSegment.is c.line_under.ensures.line)
