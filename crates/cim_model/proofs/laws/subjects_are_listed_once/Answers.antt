use Rattle.cim_model.proofs.SaidLemmas.{of_class_is_subject}
use Rattle.cim_model.proofs.SubjectLists.{distinct_subjects, listed_subject, subject_listed}
use Rattle.cim_model.proofs.laws.subjects_are_listed_once.Goals as goal

pub returns-clause-listed : goal.returns-clause-listed
returns-clause-listed c m x = (listed_subject m x, subject_listed m x)

pub returns-clause-once : goal.returns-clause-once
returns-clause-once c m = distinct_subjects m

pub returns-clause-classed : goal.returns-clause-classed
returns-clause-classed c m x test = of_class_is_subject m test x
