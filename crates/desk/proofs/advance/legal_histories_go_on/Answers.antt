use Rattle.desk.proofs.Legal.{legal_empty, legal_grows}
use Rattle.desk.proofs.advance.legal_histories_go_on.Goals as goal

pub returns-clause-empty : goal.returns-clause-empty
returns-clause-empty g c origin = legal_empty (g.V.Advance.judges origin)

pub returns-clause-grows : goal.returns-clause-grows
returns-clause-grows g c origin log entry = legal_grows (g.V.Advance.judges origin) log entry
