use Rattle.std.proofs.Common.{List, sym, subst}
use Rattle.cim_model.specs.Stands.{Stands}
use Rattle.cim_words.specs.declared.statement.Statement.{Statement}
use Rattle.link_rules.specs.Map.{IsMap}
use Rattle.room_words.specs.declared.overlay.Overlay.{Overlay}
use Rattle.versions.specs.Held.{Agrees}
use Rattle.versions.proofs.Agreeing.{agrees_first}
use Rattle.versions.proofs.version.Version.first.Goals as goal

pub rebuild-requires : goal.rebuild-requires
rebuild-requires g c = subst (Stands c.in_ok-index.index) (sym c.empty-overlay.ensures) (c.the_empty_overlay_stands.ensures c.in_ok-index.index)

pub of-requires : goal.of-requires
of-requires g c =
    let map = subst (λ (o : Overlay). IsMap c.args.base o c.in_ok-graph.graph) c.empty-overlay.ensures
    (subst (λ (m : List Statement). IsMap m c.empty-overlay.result c.in_ok-graph.graph) c.in_ok-index.ensures c.in_ok-graph.ensures.map) in
    subst Agrees (λ i. record { base = c.args.base; log = sym c.new.ensures i; counts = c.none.result; bytes = 0; index = sym c.in_ok-index.ensures i; overlay = sym c.empty-overlay.ensures i; graph = c.in_ok-graph.graph })
    (agrees_first c.args.base c.none.result c.in_ok-graph.graph c.requires (c.the_empty_overlay_stands.ensures c.args.base) map c.none.ensures)
