use Rattle.std.proofs.Common.{subst, sym}
use Rattle.cim_model.specs.Stands.{Stands}
use Rattle.room_plain.proofs.tracing.graph_of.Goals as goal

pub rebuild-requires : goal.rebuild-requires
rebuild-requires g c = subst (Stands c.args.index.now) (sym c.empty-overlay.ensures) (c.the_empty_overlay_stands.ensures c.args.index.now)
