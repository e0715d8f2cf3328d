use Rattle.cim_model.proofs.Classes.{is_of_by_class}
use Rattle.cim_model.proofs.laws.subjects_have_one_class.Goals as goal

pub returns : goal.returns
returns c m x test faultless = is_of_by_class test m x faultless
