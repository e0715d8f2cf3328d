use Rattle.std.proofs.Common.{◌<◌, ◌++◌, length, map, sym, ap, ◌∙◌, subst, arith}
use Rattle.std.proofs.lemmas.Grind.{common_steps}
use Rattle.std.proofs.lemmas.Iterator.Adapters.{YieldsList-from_vec}
use Rattle.std.proofs.lemmas.Iterator.Consumers.{YieldsList-end}
use Rattle.std.proofs.lemmas.List.{length-set, map-id}
use Rattle.std.specs.List.{IsDistinct}
use Rattle.std.specs.Vec.Iter.{into_iter_items}
use Rattle.graph_pages.specs.Buckets.{place_of}
use Rattle.graph_pages.specs.Keyed.{item_at}
use Rattle.graph_pages.proofs.Gathering.{empty_are, gathers_found, gathers_stay, none_at_all, taken_front}
use Rattle.graph_pages.proofs.gather.gathered.Goals as goal

pub loop-item-init : goal.loop-item-init
loop-item-init g c = (
  tt,
  tt,
  grind (arith, common_steps, c.in_ok-buckets.ensures),
  rw c.in_ok-buckets.ensures (empty_are g.T.Keyed.key_of g.T.Keyed.same_key g.T.Keyed.fold_of c.args.count),
  λ k. rw c.in_ok-buckets.ensures (ap (item_at g.T.Keyed.key_of g.T.Keyed.same_key k) (none_at_all c.args.count)),
  grind arith,
)

pub loop-item-preserved : goal.loop-item-preserved
loop-item-preserved g c =
    let keyed = g.T.Keyed in
    let before = c.loop-item.invariant in
    let old = c.loop-item.buckets.items in
    let ys = c.loop-item.yielded in
    let item = c.in-Some.item in
    let rest = into_iter_items c.next.new.self in
    let whole = sym c.into_iter-item-iterator.ensures.into_iter_gives.0 ∙ taken_front _ ys c.loop-item.item-iterator c.loop-item.yielded_by ∙ ap (λ ts. ys ++ ts) c.in-Some.ensures.steps.0 in
    let differ = subst (λ ts. IsDistinct keyed.same_key (map keyed.key_of ts)) whole c.requires.different in
    let some = subst (λ n. 0 < n) (sym before.2) c.requires.some in
    let is = c.place_of-place.ensures.is ∙ ap (λ n. place_of keyed.fold_of n c.key.result) (sym before.2) ∙ ap (place_of keyed.fold_of (length old)) c.key.ensures in
    rw c.in_ok-push_at.ensures (
      tt,
      tt,
      length-set old c.place_of-place.result _ ∙ before.2,
      gathers_stay keyed.key_of keyed.same_key keyed.fold_of g.met.T.Keyed.itself g.met.T.Keyed.exact old c.place_of-place.result item ys rest before.3 some is before.4 differ,
      gathers_found keyed.key_of keyed.same_key keyed.fold_of g.met.T.Keyed.itself g.met.T.Keyed.exact old c.place_of-place.result item ys rest before.3 some is before.4 differ,
      grind (arith, common_steps),
    )

pub returns-clause-found : goal.returns-clause-found
returns-clause-found g c k =
    let t = YieldsList-end (YieldsList-from_vec {s = c.into_iter-item-iterator.result} c.args.items.items c.into_iter-item-iterator.ensures.into_iter_gives.0 (cc)) c.loop-item.yielded c.loop-item.item-iterator c.loop-item.yielded_by c.next.result c.next.new.self c.in-None.is c.next.ensures.steps in
    c.loop-item.invariant.4 k ∙ ap (item_at g.T.Keyed.key_of g.T.Keyed.same_key k) (sym (map-id c.loop-item.yielded) ∙ t.0)
