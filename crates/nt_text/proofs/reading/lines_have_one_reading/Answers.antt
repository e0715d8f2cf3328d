use Rattle.nt_text.proofs.OneReading.{one_reading}
use Rattle.nt_text.proofs.reading.lines_have_one_reading.Goals as goal

pub returns : goal.returns
returns c = one_reading
