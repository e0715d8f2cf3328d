use Rattle.std.proofs.Common.{◌≤◌, Bor, map, sum_by}
use Rattle.graph_pages.proofs.paged_map.PagedMap.counts.Given as goal

abbrev pub invariant-loop-item : goal.invariant-loop-item
invariant-loop-item g l =
    (sum_by g.T.Keyed.spokes (map (λ (item : Bor g.row.T.Denot). item.now) l.yielded) ≤ l.counts.spokes) × (sum_by g.T.Keyed.hubs (map (λ (item : Bor g.row.T.Denot). item.now) l.yielded) ≤ l.counts.hubs)
