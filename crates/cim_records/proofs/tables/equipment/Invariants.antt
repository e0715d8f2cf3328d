use Rattle.std.proofs.Common.{◌≡◌, ◌++◌}
use Rattle.cim_records.proofs.Taken.{kept, equipment_test}
use Rattle.cim_records.proofs.tables.equipment.Given as goal

abbrev pub invariant-loop-id : goal.invariant-loop-id
invariant-loop-id l = l.equipment.items ++ kept (equipment_test l.terminals) l.id-iterator ≡ kept (equipment_test l.terminals) l.subjects
