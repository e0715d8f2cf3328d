use Rattle.std.proofs.Common.{ap, ◌∙◌}
use Rattle.graph_pages.specs.Buckets.{place_of}
use Rattle.graph_pages.specs.Keyed.{item_at}
use Rattle.graph_pages.proofs.OneBucket.{found_at}
use Rattle.graph_pages.proofs.paged_map.PagedMap.get.Goals as goal

pub returns : goal.returns
returns g c =
    let keyed = g.T.Keyed in
    c.get-2.ensures
    ∙ found_at keyed.key_of keyed.same_key keyed.fold_of g.met.T.Keyed.itself g.met.T.Keyed.exact c.self.inside.buckets c.place_of-place.result c.args.key c.get.result.now c.self.invariant.0 c.self.invariant.1
    (c.place_of-place.ensures.is ∙ ap (λ n. place_of keyed.fold_of n c.args.key) c.len.ensures) c.get.ensures
    ∙ ap (item_at keyed.key_of keyed.same_key c.args.key) c.self.view_is
