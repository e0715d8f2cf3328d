use Rattle.std.proofs.Common.{Bor, List, ◌∙◌, ◌≤◌, sum_by, subst}
use Rattle.std.proofs.lemmas.Iterator.Consumers.{YieldsList-from_first, YieldsList-end}
use Rattle.graph_pages.proofs.paged_map.PagedMap.counts.Goals as goal

pub returns-clause-spokes : goal.returns-clause-spokes
returns-clause-spokes g c =
    let t = YieldsList-end (YieldsList-from_first (λ (item : Bor g.row.T.Denot). item.now) (λ (rest : List g.row.T.Denot). rest) c.entries-item-items.result (cc)) c.loop-item.yielded c.loop-item.item-iterator c.loop-item.yielded_by c.next.result c.next.new.self c.in-None.is c.next.ensures.steps in
    subst (λ (items : List g.row.T.Denot). sum_by g.T.Keyed.spokes items ≤ c.loop-item.counts.spokes) (t.0 ∙ c.entries-item-items.ensures.all) c.loop-item.invariant.0

pub returns-clause-hubs : goal.returns-clause-hubs
returns-clause-hubs g c =
    let t = YieldsList-end (YieldsList-from_first (λ (item : Bor g.row.T.Denot). item.now) (λ (rest : List g.row.T.Denot). rest) c.entries-item-items.result (cc)) c.loop-item.yielded c.loop-item.item-iterator c.loop-item.yielded_by c.next.result c.next.new.self c.in-None.is c.next.ensures.steps in
    subst (λ (items : List g.row.T.Denot). sum_by g.T.Keyed.hubs items ≤ c.loop-item.counts.hubs) (t.0 ∙ c.entries-item-items.ensures.all) c.loop-item.invariant.1
