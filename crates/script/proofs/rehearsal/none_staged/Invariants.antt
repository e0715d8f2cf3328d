use Rattle.std.proofs.Common.{◌≡◌, None, replicate}
use Rattle.script.proofs.rehearsal.none_staged.Given as goal

abbrev pub invariant-loop : goal.invariant-loop
invariant-loop l = l.staged.items ≡ replicate l.counter None
