use Rattle.std.proofs.Common.{Ok, ap, ◌∙◌}
use Rattle.line_serve.proofs.SessionLaws.{goes_by_line, settled, stops_by_bye, stops_by_fault}
use Rattle.line_serve.proofs.going.serve_line.Goals as goal

pub returns-in-Ok-Bye-clause-stops : goal.returns-in-Ok-Bye-clause-stops
returns-in-Ok-Bye-clause-stops g c =
    stops_by_bye g.A.Answerer.answers c.args.answerer.now c.answer_line.new.answerer _ c.take_line.new.self c.in-Ok-Some.behind.now _ _
    c.in-Ok-Some.ensures.begun (rw c.in-Ok-Some.field-0-is at c.in-Ok-Some.ensures.line)
    (settled g.A.Answerer.answers _ _ c.line.result.now c.take_line.new.self c.answer_line.result _ _ _ c.line.ensures
    (c.in-Ok-Bye.is ∙ ap Ok c.in-Ok-Bye.field-0-is) c.answer_line.ensures.answered)

pub returns-in-Err-answer_line-clause-stops : goal.returns-in-Err-answer_line-clause-stops
returns-in-Err-answer_line-clause-stops g c =
    stops_by_fault g.A.Answerer.answers c.args.answerer.now c.answer_line.new.answerer _ c.take_line.new.self c.in-Ok-Some.behind.now _ _
    c.in-Err-answer_line.field-0 c.in-Ok-Some.ensures.begun (rw c.in-Ok-Some.field-0-is at c.in-Ok-Some.ensures.line)
    (settled g.A.Answerer.answers _ _ c.line.result.now c.take_line.new.self c.answer_line.result _ _ _ c.line.ensures
    c.in-Err-answer_line.is c.answer_line.ensures.answered)

pub returns-clause-line : goal.returns-clause-line
returns-clause-line g c =
    rw c.clear.ensures
    (goes_by_line g.A.Answerer.answers c.args.answerer.now c.answer_line.new.answerer _ c.take_line.new.self c.in-Ok-Some.behind.now _ _
    c.in-Ok-Some.ensures.begun (rw c.in-Ok-Some.field-0-is at c.in-Ok-Some.ensures.line)
    (settled g.A.Answerer.answers _ _ c.line.result.now c.take_line.new.self c.answer_line.result _ _ _ c.line.ensures
    (c.in-Ok-Go.is ∙ ap Ok c.in-Ok-Go.field-0-is) c.answer_line.ensures.answered))
