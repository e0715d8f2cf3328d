use Rattle.cim_model.proofs.AscendingLists.{equipment_ascends, marks_ascend, nodes_ascend, subjects_ascend, terminals_ascend}
use Rattle.cim_model.proofs.laws.ordered_models_ascend.Goals as goal

pub returns-clause-subjects : goal.returns-clause-subjects
returns-clause-subjects c m ordered = subjects_ascend m ordered

pub returns-clause-equipment : goal.returns-clause-equipment
returns-clause-equipment c m ordered = equipment_ascends m ordered

pub returns-clause-nodes : goal.returns-clause-nodes
returns-clause-nodes c m ordered = nodes_ascend m ordered

pub returns-clause-terminals : goal.returns-clause-terminals
returns-clause-terminals c m n ordered = terminals_ascend m n ordered

pub returns-clause-marks : goal.returns-clause-marks
returns-clause-marks c m x ordered = marks_ascend m x ordered
