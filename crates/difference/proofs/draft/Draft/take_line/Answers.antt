use Rattle.std.proofs.lemmas.Result.{IfErr-weaker, on_ok_weaker}
use Rattle.difference.proofs.LineSteps.{gains_line, gains_none, tells_weaker}
use Rattle.difference.proofs.draft.Draft.take_line.Goals as goal

pub returns-in-Ok-Some-clause-ok : goal.returns-in-Ok-Some-clause-ok
returns-in-Ok-Some-clause-ok c =
    let reading = rw c.in-Ok-Some.field-0-is at c.in-Ok-Some.ensures.reads in
    on_ok_weaker c.take_statement.result (gains_line c.args.line.now c.in-Ok-Some.statement c.args.self.now c.take_statement.new.self reading)
    c.take_statement.ensures.ok

pub returns-in-Ok-Some-clause-fault : goal.returns-in-Ok-Some-clause-fault
returns-in-Ok-Some-clause-fault c =
    let reading = rw c.in-Ok-Some.field-0-is at c.in-Ok-Some.ensures.reads in
    IfErr-weaker c.take_statement.result _ _
    (λ f. tells_weaker c.args.number _ _ f (λ w. gains_none c.args.line.now c.in-Ok-Some.statement c.args.self.now w reading))
    c.take_statement.ensures.fault
