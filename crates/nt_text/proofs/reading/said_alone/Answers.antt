use Rattle.std.proofs.Common.{Some, ap}
use Rattle.nt_text.proofs.WrittenLines.{no_fault, said_is}
use Rattle.nt_text.proofs.reading.said_alone.Goals as goal

pub returns-in-Ok-clause-only : goal.returns-in-Ok-clause-only
returns-in-Ok-clause-only c s held is = ap Some (said_is c.args.line.now c.in-Ok.statement s c.in-Ok.ensures.says held is)

pub returns-in-Err-Refusal-clause-only : goal.returns-in-Err-Refusal-clause-only
returns-in-Err-Refusal-clause-only c s held is =
    absurd (no_fault c.args.line.now s c.in-Err-Refusal.field-0-0 held is (rw c.in-Err-Refusal.field-0-is at c.in-Err-Refusal.ensures.cause))
