use Rattle.std.proofs.Common.{◌≡◌, ◌++◌}
use Rattle.cim_records.proofs.Taken.{kept, node_test}
use Rattle.cim_records.proofs.tables.nodes.Given as goal

abbrev pub invariant-loop-id : goal.invariant-loop-id
invariant-loop-id l = l.nodes.items ++ kept node_test l.id-iterator ≡ kept node_test l.subjects
