use Rattle.statement_set.proofs.Runs.{run_within}
use Rattle.statement_set.proofs.subjects.SubjectsIterator.next.Goals as goal

pub split_at-requires : goal.split_at-requires
split_at-requires c = rw c.run_len.ensures (run_within c.self.inside.left.now)
