use Rattle.std.proofs.Common.{◌≡◌, ◌++◌, ◌-◌, drop, length}
use Rattle.graph_pages.specs.Buckets.{all_items}
use Rattle.graph_pages.proofs.entries.filled.Given as goal

abbrev pub invariant-loop-next : goal.invariant-loop-next
invariant-loop-next g l = l.current ++ all_items (drop l.next l.buckets) ≡ l.fn.left ++ all_items (drop l.fn.behind l.buckets)

abbrev pub decreases-loop-next : goal.decreases-loop-next
decreases-loop-next g l = length l.buckets - l.next
