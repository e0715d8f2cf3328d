use Rattle.std.proofs.Common.{List, refl, subst}
use Rattle.std.proofs.lemmas.List.{take_all}
use Rattle.graph_pages.specs.declared.star.Spoke.{Spoke}
use Rattle.feeder_trace.specs.Search.{MarksAll}
use Rattle.feeder_trace.specs.Spread.{AmongSpokes}
use Rattle.feeder_trace.proofs.SpreadLemmas.{spokes_none, spokes_skip, spokes_more}
use Rattle.feeder_trace.proofs.spread.reach_spokes.Goals as goal

pub loop-spoke-init : goal.loop-spoke-init
loop-spoke-init c = spokes_none c.args.spokes.now c.args.except c.args.phases c.args.search.now

pub loop-spoke-preserved-then-is_excepted : goal.loop-spoke-preserved-then-is_excepted
loop-spoke-preserved-then-is_excepted c =
    spokes_skip c.args.spokes.now c.loop-spoke.spoke-index _ _ c.args.except c.args.phases c.args.search.now c.loop-spoke.search c.loop-spoke-test.true refl (c.if-is_excepted.ensures.0 refl) c.loop-spoke.invariant

pub loop-spoke-preserved : goal.loop-spoke-preserved
loop-spoke-preserved c =
    spokes_more c.args.spokes.now c.loop-spoke.spoke-index _ _ c.args.except c.args.phases c.args.search.now c.loop-spoke.search c.reach.new.self c.loop-spoke-test.true refl
    (λ e. let held = c.if-is_excepted.ensures.1 e in cc) c.loop-spoke.invariant c.reach.ensures

pub returns : goal.returns
returns c =
    subst (λ (spokes : List Spoke). MarksAll (AmongSpokes spokes c.args.except c.args.phases) c.args.search.now c.loop-spoke.search) (take_all c.loop-spoke.spoke-index c.args.spokes.now c.loop-spoke-test.false) c.loop-spoke.invariant
