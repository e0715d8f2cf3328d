use Rattle.nt_text.proofs.LineLists.{lines_fewer}
use Rattle.nt_text.proofs.lines.Lines.of.Goals as goal

pub returns-clause-few : goal.returns-clause-few
returns-clause-few c = lines_fewer c.args.bytes.now
