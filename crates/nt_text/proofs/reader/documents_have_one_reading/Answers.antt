use Rattle.nt_text.proofs.OneDocument.{one_document, one_bad_document, no_bad_document}
use Rattle.nt_text.proofs.reader.documents_have_one_reading.Goals as goal

pub returns-clause-statements : goal.returns-clause-statements
returns-clause-statements c = one_document

pub returns-clause-bad_line : goal.returns-clause-bad_line
returns-clause-bad_line c = one_bad_document

pub returns-clause-either : goal.returns-clause-either
returns-clause-either c bytes s t n why is bad = no_bad_document bytes s n why t is bad
