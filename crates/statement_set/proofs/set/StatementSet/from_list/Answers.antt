use Rattle.std.proofs.Common.{Contains}
use Rattle.statement_set.specs.Set.{IsSetOf}
use Rattle.statement_set.proofs.Members.{gives_same}
use Rattle.statement_set.proofs.set.StatementSet.from_list.Goals as goal

pub returns : goal.returns
returns c =
    let set : IsSetOf (Contains c.args.items) c.order_once.new.statements.items = rw c.into_vec-statements.ensures at c.order_once.ensures in
    gives_same (Contains c.order_once.new.statements.items) (Contains c.args.items) set.members c.of_ordered.result c.of_ordered.ensures
