use Rattle.std.proofs.Common.{List, map, subst, sym}
use Rattle.std.specs.List.{IsDistinct}
use Rattle.graph_pages.proofs.Spread.{all_differ}
use Rattle.graph_pages.proofs.paged_map.PagedMap.entries.Goals as goal

pub returns-clause-once : goal.returns-clause-once
returns-clause-once g c =
    subst (λ (all : List g.row.T.Denot). IsDistinct g.T.Keyed.same_key (map g.T.Keyed.key_of all)) (sym c.of.ensures)
    (all_differ g.T.Keyed.key_of g.T.Keyed.same_key g.T.Keyed.fold_of g.met.T.Keyed.itself g.met.T.Keyed.exact c.self.inside.buckets c.self.invariant.0)
