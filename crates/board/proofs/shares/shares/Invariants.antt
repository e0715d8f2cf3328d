use Rattle.std.proofs.Common.{◌≡◌, replicate}
use Rattle.board.proofs.shares.shares.Given as goal

abbrev pub invariant-loop-made : goal.invariant-loop-made
invariant-loop-made g l = l.copies.items ≡ replicate l.made l.version
