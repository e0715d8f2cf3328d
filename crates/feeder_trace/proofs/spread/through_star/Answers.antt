use Rattle.std.proofs.Common.{List, Some, None, subst}
use Rattle.graph_pages.specs.declared.star.Spoke.{Spoke}
use Rattle.feeder_trace.specs.Search.{MarksAll}
use Rattle.feeder_trace.specs.Spread.{AmongSpokes}
use Rattle.feeder_trace.proofs.SpreadLemmas.{same_marks, closed_marks, transformer_marks}
use Rattle.feeder_trace.proofs.spread.through_star.Goals as goal

pub returns-in-Same : goal.returns-in-Same
returns-in-Same c =
    same_marks c.args.star.now c.args.term c.args.phases c.args.search.now c.reach_spokes.new.search c.in-Same.is
    (subst (λ (spokes : List Spoke). MarksAll (AmongSpokes spokes None c.args.phases) c.args.search.now c.reach_spokes.new.search) c.as_slice-spokes.ensures c.reach_spokes.ensures)

pub returns-then-not-is_open : goal.returns-then-not-is_open
returns-then-not-is_open c =
    closed_marks c.args.star.now c.args.term c.args.phases c.in-Switch.is_open c.args.search.now c.reach_spokes-then-not-is_open.new.search c.in-Switch.is c.if-not-is_open.true
    (subst (λ (spokes : List Spoke). MarksAll (AmongSpokes spokes (Some c.args.term) c.args.phases) c.args.search.now c.reach_spokes-then-not-is_open.new.search) c.as_slice-spokes.ensures c.reach_spokes-then-not-is_open.ensures)

pub returns-in-Transformer : goal.returns-in-Transformer
returns-in-Transformer c =
    transformer_marks c.args.star.now c.args.term c.args.phases c.transformed.result c.args.search.now c.reach_spokes-in-Transformer.new.search c.in-Transformer.is c.transformed.ensures.sound c.transformed.ensures.complete
    (subst (λ (spokes : List Spoke). MarksAll (AmongSpokes spokes (Some c.args.term) c.transformed.result) c.args.search.now c.reach_spokes-in-Transformer.new.search) c.as_slice-spokes.ensures c.reach_spokes-in-Transformer.ensures)
