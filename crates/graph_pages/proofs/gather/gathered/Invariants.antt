use Rattle.std.proofs.Common.{◌≡◌, ◌+◌, length}
use Rattle.graph_pages.specs.Buckets.{AreBuckets, all_items}
use Rattle.graph_pages.specs.Keyed.{item_at}
use Rattle.graph_pages.proofs.gather.gathered.Given as goal

abbrev pub invariant-loop-item : goal.invariant-loop-item
invariant-loop-item g l =
    (goal.iterator-loop-item g).can_next l.item-iterator × (goal.iterator-loop-item g).is_finite l.item-iterator
    × (length l.buckets.items ≡ l.count)
    × AreBuckets g.T.Keyed.key_of g.T.Keyed.same_key g.T.Keyed.fold_of l.buckets.items
    × ((k : g.row.T-Key.Denot) → item_at g.T.Keyed.key_of g.T.Keyed.same_key k (all_items l.buckets.items) ≡ item_at g.T.Keyed.key_of g.T.Keyed.same_key k l.yielded)
    × (l.steps ≡ l.initial.steps + length l.yielded)
