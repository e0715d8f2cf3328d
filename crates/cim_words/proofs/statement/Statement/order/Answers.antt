use Rattle.std.proofs.Common.{◌∙◌}
use Rattle.cim_words.proofs.statement.Statement.order.Goals as goal

pub returns : goal.returns
returns c = c.cmp.ensures ∙ c.statements_are_ordered.ensures.derived c.args.self.now c.args.other.now
