use Rattle.nt_text.proofs.LineReads.{wide_is}
use Rattle.nt_text.proofs.reading.statement_in.Goals as goal

pub returns-then-branch-clause-cause : goal.returns-then-branch-clause-cause
returns-then-branch-clause-cause c =
    wide_is c.args.line.now _ c.in_ok-is_wide.field-0 c.in_ok-is_wide.ensures c.if-branch.true c.in_ok-statement.ensures.says
