use Rattle.std.proofs.Common.{◌≡◌, Some, option_copied, sym, ap, ◌∙◌, subst}
use Rattle.cim_model.specs.Reach.{IsReached}
use Rattle.cim_model.specs.Trace.{IsTrace}
use Rattle.graph_pages.specs.Graph.{star_of}
use Rattle.graph_pages.specs.Walks.{wiring}
use Rattle.feeder_trace.proofs.RowLemmas.{own_number, traced}
use Rattle.feeder_trace.proofs.tracer.Tracer.trace.Goals as goal

pub walk-requires-clause-star : goal.walk-requires-clause-star
walk-requires-clause-star c =
    let at : star_of c.args.graph.now c.args.start.number ≡ Some c.in_ok-star.star.now = sym c.star.ensures ∙ ap option_copied c.in_ok-star.ensures.ok_part in
    subst (λ x. star_of c.args.graph.now x ≡ Some c.in_ok-star.star.now) (sym (own_number c.args.graph.now c.args.start.number c.in_ok-star.star.now at)) at

pub returns-clause-traced : goal.returns-clause-traced
returns-clause-traced c =
    let at : star_of c.args.graph.now c.args.start.number ≡ Some c.in_ok-star.star.now = sym c.star.ensures ∙ ap option_copied c.in_ok-star.ensures.ok_part in
    subst (λ x. IsTrace (IsReached (wiring c.args.graph.now) x c.args.phases) c.merge.new.rows.items) (own_number c.args.graph.now c.args.start.number c.in_ok-star.star.now at)
    (traced c.args.graph.now c.in_ok-star.star.now.id.number c.args.phases c.walk.new.search c.gather.new.parts.items c.merge.new.rows.items c.walk.ensures.walked c.gather.ensures.counted c.merge.ensures.rows c.merge.ensures.same)
