use Rattle.std.proofs.Common.{◌*◌, ◌≤◌, vec_len}
use Rattle.std.specs.Vec.{vec_capacity}
use Rattle.feeder_trace.proofs.PartLemmas.{IsGathered}
use Rattle.feeder_trace.proofs.gather.gather.Given as goal

abbrev pub invariant-loop-index : goal.invariant-loop-index
invariant-loop-index l =
    IsGathered l.graph l.search l.index l.parts.items × (vec_len l.parts ≤ 2 * l.index) × (vec_capacity l.fn.parts ≤ vec_capacity l.parts)
