use Rattle.std.proofs.Common.{◌≡◌, ◌++◌, ℕ, map}
use Rattle.cim_model.specs.Values.{as_id}
use Rattle.cim_records.specs.Found.{members}
use Rattle.cim_records.specs.Gathered.{gathered}
use Rattle.cim_records.proofs.gathering.gather.Given as goal

abbrev pub invariant-loop-statement : goal.invariant-loop-statement
invariant-loop-statement l = (x : ℕ) → members l.groups x ++ map as_id (gathered l.gathering l.subjects l.statement-iterator x) ≡ members l.initial.groups x ++ map as_id (gathered l.gathering l.subjects l.statements x)
