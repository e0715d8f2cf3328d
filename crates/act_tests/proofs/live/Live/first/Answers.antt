use Rattle.std.proofs.Common.{subst, sym}
use Rattle.cim_model.specs.Stands.{Stands}
use Rattle.act_tests.proofs.live.Live.first.Goals as goal

pub graph_of-requires-clause-stands : goal.graph_of-requires-clause-stands
graph_of-requires-clause-stands c = subst (Stands c.args.index) (sym c.empty-overlay.ensures) (c.the_empty_overlay_stands.ensures c.args.index)

pub invariant_of-result : goal.invariant_of-result
invariant_of-result c = (c.requires, subst (Stands c.args.index) (sym c.empty-overlay.ensures) (c.the_empty_overlay_stands.ensures c.args.index), c.in_ok-graph.ensures)
