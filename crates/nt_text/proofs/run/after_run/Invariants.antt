use Rattle.std.proofs.Common.{◌≡◌, length}
use Rattle.nt_text.specs.Run.{is_of_kind, behind_run}
use Rattle.nt_text.proofs.run.after_run.Given as goal

-- what is passed over is of the kind
abbrev pub invariant-loop-rest : goal.invariant-loop-rest
invariant-loop-rest l = behind_run (is_of_kind l.kind) l.fn.bytes ≡ behind_run (is_of_kind l.kind) l.rest

abbrev pub decreases-loop-rest : goal.decreases-loop-rest
decreases-loop-rest l = length l.rest
