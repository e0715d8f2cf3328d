use Rattle.std.proofs.Common.{◌≡◌}
use Rattle.layer_tests.proofs.boards.write_all.Given as goal

abbrev pub invariant-loop-done : goal.invariant-loop-done
invariant-loop-done g l = l.writer ≡ record l.fn.writer { last = record { number = l.done }; told = l.done }
