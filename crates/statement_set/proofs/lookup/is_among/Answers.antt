use Rattle.statement_set.proofs.Searches.{found}
use Rattle.statement_set.proofs.lookup.is_among.Goals as goal

pub returns : goal.returns
returns c = rw c.is_ok.ensures.value (found _ c.statements_are_ordered.ensures.derived c.args.ordered.now c.args.statement.now c.binary_search.result c.binary_search.ensures.bound c.binary_search.ensures.position c.requires)
