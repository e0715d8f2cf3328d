use Rattle.std.proofs.Common.{◌∙◌, ◌==◌, rules}
use Rattle.std.proofs.lemmas.Iterator.{YieldsList-from_slice}
use Rattle.std.proofs.lemmas.Iterator.Consumers.{count_from_yields_List}
use Rattle.std.proofs.lemmas.Iterator.Search.{YieldsList-from_take_while}
use Rattle.std.proofs.lemmas.List.Folds.{length-prefix_len}
use Rattle.cim_words.specs.declared.statement.Statement.{Statement}
use Rattle.statement_set.proofs.Runs.{run_is}
use Rattle.statement_set.proofs.subjects.run_len.Goals as goal

pub returns-in-len1-up : goal.returns-in-len1-up
returns-in-len1-up c =
    count_from_yields_List c.take_while.result _ c.count.ensures.ran
    (YieldsList-from_take_while _ (λ (t : Statement). t.subject.number == c.first-item.result.subject.number) (YieldsList-from_slice c.args.statements.now cc) c.take_while.ensures.closure c.take_while.ensures.done (λ x b q k. search rules))
    ∙ length-prefix_len (λ (t : Statement). t.subject.number == c.first-item.result.subject.number) c.args.statements.now
    ∙ run_is c.args.statements.now c.first-item.result c.in-len1-up.len_at_least c.first-item.is
