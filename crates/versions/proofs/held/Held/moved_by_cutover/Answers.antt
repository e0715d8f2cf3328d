use Rattle.std.proofs.Common.{sym, subst}
use Rattle.cim_model.specs.Stands.{Stands}
use Rattle.versions.proofs.held.Held.moved_by_cutover.Goals as goal

pub rebuild-requires : goal.rebuild-requires
rebuild-requires g c = subst (Stands c.in_ok-index.index) (sym c.in_ok-overlay.ensures) c.in_ok-index.ensures.stands.1

pub returns-clause-moved : goal.returns-clause-moved
returns-clause-moved g c =
    record {
      takes = (c.in_ok-index.ensures.takes.0, c.in_ok-overlay.ensures);
      faultless = c.in_ok-index.ensures.stands.0;
      stands = subst (Stands c.in_ok-index.index) (sym c.in_ok-overlay.ensures) c.in_ok-index.ensures.stands.1;
      map = c.in_ok-graph.ensures.map;
    }
