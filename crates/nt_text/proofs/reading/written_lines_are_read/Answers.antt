use Rattle.nt_text.proofs.WrittenLines.{written_reads}
use Rattle.nt_text.proofs.reading.written_lines_are_read.Goals as goal

pub returns : goal.returns
returns c = written_reads
