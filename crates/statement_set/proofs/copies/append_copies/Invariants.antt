use Rattle.std.proofs.Common.{◌≡◌, ◌++◌, take}
use Rattle.statement_set.proofs.copies.append_copies.Given as goal

abbrev pub invariant-loop-statement : goal.invariant-loop-statement
invariant-loop-statement l = l.into.items ≡ l.initial.into.items ++ take l.statement-index l.statements
