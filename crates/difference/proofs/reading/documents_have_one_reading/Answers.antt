use Rattle.difference.proofs.OneDocument.{no_fault, one_document, one_fault}
use Rattle.difference.proofs.reading.documents_have_one_reading.Goals as goal

pub returns-clause-differences : goal.returns-clause-differences
returns-clause-differences c = one_document c.lines_have_one_reading.ensures

pub returns-clause-faults : goal.returns-clause-faults
returns-clause-faults c = one_fault c.lines_have_one_reading.ensures

pub returns-clause-either : goal.returns-clause-either
returns-clause-either c = no_fault c.lines_have_one_reading.ensures
