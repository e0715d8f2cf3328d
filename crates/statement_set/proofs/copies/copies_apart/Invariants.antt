use Rattle.std.proofs.Common.{◌≡◌, take}
use Rattle.std.specs.List.{filter}
use Rattle.statement_set.proofs.Members.{stays}
use Rattle.statement_set.proofs.copies.copies_apart.Given as goal

abbrev pub invariant-loop-statement : goal.invariant-loop-statement
invariant-loop-statement l = l.kept.items ≡ filter (stays l.gone) (take l.statement-index l.statements)
