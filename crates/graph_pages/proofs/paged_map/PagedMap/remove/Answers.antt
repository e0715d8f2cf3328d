use Rattle.std.proofs.Common.{ap, ◌∙◌}
use Rattle.graph_pages.specs.Buckets.{place_of}
use Rattle.graph_pages.proofs.OneBucket.{dropped, fits_but, sizes_dropped, stay, stay_some}
use Rattle.graph_pages.proofs.paged_map.PagedMap.remove.Goals as goal

pub invariant_of-self-2 : goal.invariant_of-self-2
invariant_of-self-2 g c =
    rw (c.in_ok-put.ensures.ok, c.in_ok-bucket.ensures) (
      stay g.T.Keyed.key_of g.T.Keyed.same_key g.T.Keyed.fold_of g.met.T.Keyed.itself g.met.T.Keyed.exact c.self.inside.buckets c.place_of-place.result c.args.key c.get.result.now c.self.invariant.0 c.self.invariant.1
          (c.place_of-place.ensures.is ∙ ap (λ n. place_of g.T.Keyed.fold_of n c.args.key) c.len.ensures) c.get.ensures _
          (fits_but g.T.Keyed.key_of g.T.Keyed.same_key g.T.Keyed.fold_of g.met.T.Keyed.itself g.met.T.Keyed.exact c.self.inside.buckets c.place_of-place.result c.args.key c.get.result.now c.self.invariant.0 c.self.invariant.1
          (c.place_of-place.ensures.is ∙ ap (λ n. place_of g.T.Keyed.fold_of n c.args.key) c.len.ensures) c.get.ensures),
      stay_some g.T.Keyed.key_of g.T.Keyed.same_key g.T.Keyed.fold_of g.met.T.Keyed.itself g.met.T.Keyed.exact c.self.inside.buckets c.place_of-place.result c.args.key c.get.result.now c.self.invariant.0 c.self.invariant.1
          (c.place_of-place.ensures.is ∙ ap (λ n. place_of g.T.Keyed.fold_of n c.args.key) c.len.ensures) c.get.ensures _,
    )

pub returns-clause-found : goal.returns-clause-found
returns-clause-found g c q =
    rw (c.in_ok-put.ensures.ok, c.in_ok-bucket.ensures, ← c.self.view_is)
    (dropped g.T.Keyed.key_of g.T.Keyed.same_key g.T.Keyed.fold_of g.met.T.Keyed.itself g.met.T.Keyed.exact c.self.inside.buckets c.place_of-place.result c.args.key c.get.result.now c.self.invariant.0 c.self.invariant.1
    (c.place_of-place.ensures.is ∙ ap (λ n. place_of g.T.Keyed.fold_of n c.args.key) c.len.ensures) c.get.ensures q)

pub returns-clause-sizes : goal.returns-clause-sizes
returns-clause-sizes g c size =
    rw (c.in_ok-put.ensures.ok, c.in_ok-bucket.ensures, ← c.self.view_is)
    (sizes_dropped g.T.Keyed.key_of g.T.Keyed.same_key g.T.Keyed.fold_of g.met.T.Keyed.itself g.met.T.Keyed.exact c.self.inside.buckets c.place_of-place.result c.args.key c.get.result.now c.self.invariant.0 c.self.invariant.1
    (c.place_of-place.ensures.is ∙ ap (λ n. place_of g.T.Keyed.fold_of n c.args.key) c.len.ensures) c.get.ensures size)
