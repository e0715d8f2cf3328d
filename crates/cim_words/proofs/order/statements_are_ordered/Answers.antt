use Rattle.cim_words.proofs.Orders.{statement_order_total, tied_statements_are_one}
use Rattle.cim_words.proofs.order.statements_are_ordered.Goals as goal

pub returns-clause-total : goal.returns-clause-total
returns-clause-total c = statement_order_total

pub returns-clause-apart : goal.returns-clause-apart
returns-clause-apart c = tied_statements_are_one
