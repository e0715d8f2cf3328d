use Rattle.std.proofs.Common.{rules}
use Rattle.desk.proofs.desk.Desk.prepare.Goals as goal

pub returns-in-Err-clause-refused : goal.returns-in-Err-clause-refused
returns-in-Err-clause-refused g c why is = let same = c.in-Err.ensures.refused why in search rules
