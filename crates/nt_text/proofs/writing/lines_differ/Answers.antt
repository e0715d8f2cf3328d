use Rattle.nt_text.proofs.WrittenLines.{one_line}
use Rattle.nt_text.proofs.writing.lines_differ.Goals as goal

pub returns : goal.returns
returns c = one_line
