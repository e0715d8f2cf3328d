use Rattle.std.proofs.Common.{length}
use Rattle.nt_text.proofs.Tags.{IsPast}
use Rattle.nt_text.proofs.ends.after_subtags.Given as goal

-- the subtags so far are passed
abbrev pub invariant-loop-subtag : goal.invariant-loop-subtag
invariant-loop-subtag l = IsPast l.bytes l.rest

abbrev pub decreases-loop-subtag : goal.decreases-loop-subtag
decreases-loop-subtag l = length l.rest
