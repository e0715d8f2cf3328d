use Rattle.cim_model.proofs.FaultlessTerminals.{node_is, owner_equipment, owner_or_none}
use Rattle.cim_model.proofs.laws.terminals_join_equipment_to_nodes.Goals as goal

pub returns-clause-terminals : goal.returns-clause-terminals
returns-clause-terminals c m t faultless = owner_or_none m t faultless

pub returns-clause-equipment : goal.returns-clause-equipment
returns-clause-equipment c m y t faultless owned = owner_equipment m y t faultless owned

pub returns-clause-nodes : goal.returns-clause-nodes
returns-clause-nodes c m n t faultless at = node_is m t n faultless at
