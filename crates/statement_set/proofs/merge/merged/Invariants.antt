use Rattle.std.proofs.Common.{◌+◌, length}
use Rattle.statement_set.proofs.Merging.{IsMerging}
use Rattle.statement_set.proofs.merge.merged.Given as goal

abbrev pub invariant-loop-left : goal.invariant-loop-left
invariant-loop-left l = IsMerging l.these l.those l.merged.items l.left l.right

abbrev pub decreases-loop-left : goal.decreases-loop-left
decreases-loop-left l = length l.left + length l.right
