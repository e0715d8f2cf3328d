use Rattle.cim_model.proofs.MarkLists.{are_marks}
use Rattle.cim_model.proofs.laws.marks_divide_segments.Goals as goal

pub returns : goal.returns
returns c m x faultless = are_marks m x faultless
