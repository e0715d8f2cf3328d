use Rattle.std.proofs.Common.{◌≡◌}
use Rattle.cim_model.specs.Model.{said_in}
use Rattle.cim_model.specs.Network.{first}
use Rattle.cim_records.proofs.subject_statements.object_in.Given as goal

abbrev pub invariant-loop-statement : goal.invariant-loop-statement
invariant-loop-statement l = first (said_in l.statement-iterator l.known) ≡ first (said_in l.statements l.known)
