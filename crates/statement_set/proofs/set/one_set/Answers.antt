use Rattle.statement_set.proofs.Members.{one_list}
use Rattle.statement_set.proofs.set.one_set.Goals as goal

pub returns : goal.returns
returns c = one_list
