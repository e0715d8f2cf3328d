use Rattle.std.proofs.Common.{◌∙◌, sym}
use Rattle.statement_set.proofs.Searches.{ordered_alike}
use Rattle.statement_set.proofs.once.order_once.Goals as goal

pub returns : goal.returns
returns c = record {
  ordered = ordered_alike _ c.statements_are_ordered.ensures.derived _ c.sort_once.ensures.ordered;
  members = c.sort_once.ensures.same (λ s t tied. c.statements_are_ordered.ensures.apart s t (sym (c.statements_are_ordered.ensures.derived s t) ∙ tied));
}
