use Rattle.std.proofs.Common.{◌≤◌, vec_len}
use Rattle.std.specs.Vec.{vec_capacity}
use Rattle.feeder_trace.proofs.RowLemmas.{IsMerged}
use Rattle.feeder_trace.proofs.merge.merge.Given as goal

abbrev pub invariant-loop-part : goal.invariant-loop-part
invariant-loop-part l = IsMerged l.part-items l.part-index l.rows.items × (vec_len l.rows ≤ l.part-index) × (vec_capacity l.fn.rows ≤ vec_capacity l.rows)
