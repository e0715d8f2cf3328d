use Rattle.nt_text.proofs.FrontLines.{none_ends, first_end}
use Rattle.nt_text.proofs.reader.front_line.Goals as goal

pub returns-in_err-end-clause-none : goal.returns-in_err-end-clause-none
returns-in_err-end-clause-none c = rw c.from_residual.ensures (none_ends c.args.bytes.now c.in_err-end.ensures)

pub returns-clause-found : goal.returns-clause-found
returns-clause-found c = let found = c.in_ok-end.ensures in first_end c.args.bytes.now c.in_ok-end.end found.0.before found.0.high found.1
