use Rattle.staging.proofs.Kept.{kept_fault, kept_more, kept_says}
use Rattle.staging.proofs.laws.kept_documents_are_read.Goals as goal

pub returns-clause-more : goal.returns-clause-more
returns-clause-more c = kept_more

pub returns-clause-says : goal.returns-clause-says
returns-clause-says c = kept_says

pub returns-clause-fault : goal.returns-clause-fault
returns-clause-fault c = kept_fault
