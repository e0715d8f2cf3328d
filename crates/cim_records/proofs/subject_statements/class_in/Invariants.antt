use Rattle.std.proofs.Common.{◌≡◌}
use Rattle.cim_records.specs.Subject.{class_said}
use Rattle.cim_records.proofs.subject_statements.class_in.Given as goal

abbrev pub invariant-loop-statement : goal.invariant-loop-statement
invariant-loop-statement l = class_said l.statement-iterator ≡ class_said l.statements
