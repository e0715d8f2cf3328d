use Rattle.std.proofs.Common.{◌≡◌, ◌++◌, ℕ}
use Rattle.cim_records.specs.Found.{members}
use Rattle.cim_records.proofs.Taken.{marked}
use Rattle.cim_records.proofs.tables.marks.Given as goal

abbrev pub invariant-loop-id : goal.invariant-loop-id
invariant-loop-id l = (x : ℕ) → members l.marks x ++ marked x l.id-iterator ≡ marked x l.subjects
