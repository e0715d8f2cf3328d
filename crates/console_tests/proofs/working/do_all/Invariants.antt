use Rattle.std.proofs.Common.{◌≡◌}
use Rattle.console_tests.proofs.working.do_all.Given as goal

abbrev pub ghosts-order : goal.ghosts-order
ghosts-order g a = record { name = a.blank.name; parts = a.blank.parts }

abbrev pub invariant-loop-turn : goal.invariant-loop-turn
invariant-loop-turn g l = l.console.reader.console ≡ l.initial.console.reader.console
