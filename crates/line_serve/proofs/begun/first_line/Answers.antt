use Rattle.line_serve.proofs.LineLaws.{front_is_one_line, whole_is_one_line}
use Rattle.line_serve.proofs.begun.first_line.Goals as goal

pub returns-in-Some-clause-one_line : goal.returns-in-Some-clause-one_line
returns-in-Some-clause-one_line c = front_is_one_line c.args.bytes.now c.in-Some.end c.in-Some.ensures.0.before

pub returns-in-None-clause-one_line : goal.returns-in-None-clause-one_line
returns-in-None-clause-one_line c = whole_is_one_line c.args.bytes.now c.in-None.ensures
