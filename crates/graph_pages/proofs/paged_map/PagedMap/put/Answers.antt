use Rattle.std.proofs.Common.{ap, ◌∙◌, length, refl}
use Rattle.graph_pages.specs.Buckets.{place_of}
use Rattle.graph_pages.proofs.OneBucket.{fits_put, put_there, sizes_put, stay, stay_some}
use Rattle.graph_pages.proofs.paged_map.PagedMap.put.Goals as goal

pub invariant_of-self-2 : goal.invariant_of-self-2
invariant_of-self-2 g c =
    rw (c.in_ok-put.ensures.ok, c.in_ok-push.ensures, c.in_ok-bucket.ensures, c.key-key.ensures) (
      stay g.T.Keyed.key_of g.T.Keyed.same_key g.T.Keyed.fold_of g.met.T.Keyed.itself g.met.T.Keyed.exact c.self.inside.buckets c.place_of-place.result (g.T.Keyed.key_of c.args.item) c.get.result.now c.self.invariant.0 c.self.invariant.1
          (c.place_of-place.ensures.is ∙ ap (λ n. place_of g.T.Keyed.fold_of n c.key-key.result) c.len.ensures ∙ ap (place_of g.T.Keyed.fold_of (length c.self.inside.buckets)) c.key-key.ensures) c.get.ensures _
          (fits_put g.T.Keyed.key_of g.T.Keyed.same_key g.T.Keyed.fold_of g.met.T.Keyed.itself g.met.T.Keyed.exact c.self.inside.buckets c.place_of-place.result (g.T.Keyed.key_of c.args.item) c.get.result.now c.self.invariant.0 c.self.invariant.1
          (c.place_of-place.ensures.is ∙ ap (λ n. place_of g.T.Keyed.fold_of n c.key-key.result) c.len.ensures ∙ ap (place_of g.T.Keyed.fold_of (length c.self.inside.buckets)) c.key-key.ensures) c.get.ensures c.args.item refl),
      stay_some g.T.Keyed.key_of g.T.Keyed.same_key g.T.Keyed.fold_of g.met.T.Keyed.itself g.met.T.Keyed.exact c.self.inside.buckets c.place_of-place.result (g.T.Keyed.key_of c.args.item) c.get.result.now c.self.invariant.0 c.self.invariant.1
          (c.place_of-place.ensures.is ∙ ap (λ n. place_of g.T.Keyed.fold_of n c.key-key.result) c.len.ensures ∙ ap (place_of g.T.Keyed.fold_of (length c.self.inside.buckets)) c.key-key.ensures) c.get.ensures _,
    )

pub returns-clause-found : goal.returns-clause-found
returns-clause-found g c q =
    rw (c.in_ok-put.ensures.ok, c.in_ok-push.ensures, c.in_ok-bucket.ensures, c.key-key.ensures, ← c.self.view_is)
    (put_there g.T.Keyed.key_of g.T.Keyed.same_key g.T.Keyed.fold_of g.met.T.Keyed.itself g.met.T.Keyed.exact c.self.inside.buckets c.place_of-place.result (g.T.Keyed.key_of c.args.item) c.get.result.now c.self.invariant.0 c.self.invariant.1
    (c.place_of-place.ensures.is ∙ ap (λ n. place_of g.T.Keyed.fold_of n c.key-key.result) c.len.ensures ∙ ap (place_of g.T.Keyed.fold_of (length c.self.inside.buckets)) c.key-key.ensures) c.get.ensures c.args.item refl q)

pub returns-clause-sizes : goal.returns-clause-sizes
returns-clause-sizes g c size =
    rw (c.in_ok-put.ensures.ok, c.in_ok-push.ensures, c.in_ok-bucket.ensures, c.key-key.ensures, ← c.self.view_is)
    (sizes_put g.T.Keyed.key_of g.T.Keyed.same_key g.T.Keyed.fold_of g.met.T.Keyed.itself g.met.T.Keyed.exact c.self.inside.buckets c.place_of-place.result (g.T.Keyed.key_of c.args.item) c.get.result.now c.self.invariant.0 c.self.invariant.1
    (c.place_of-place.ensures.is ∙ ap (λ n. place_of g.T.Keyed.fold_of n c.key-key.result) c.len.ensures ∙ ap (place_of g.T.Keyed.fold_of (length c.self.inside.buckets)) c.key-key.ensures) c.get.ensures c.args.item refl size)
