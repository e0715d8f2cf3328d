use Rattle.cim_records.proofs.tables.Tables.of.Goals as goal

pub equipment-requires-clause-terminals : goal.equipment-requires-clause-terminals
equipment-requires-clause-terminals c = c.in_ok-gathered.ensures.of_terminals

pub invariant_of-result : goal.invariant_of-result
invariant_of-result c = record {
  faultless = c.requires;
  of_subjects = c.in_ok-subjects.ensures;
  of_terminals = c.in_ok-gathered.ensures.of_terminals;
  of_node_terminals = c.in_ok-gathered.ensures.of_node_terminals;
  of_phases = c.in_ok-gathered.ensures.of_phases;
  of_marks = c.in_ok-gathered.ensures.of_marks;
  of_equipment = c.in_ok-equipment.ensures;
  of_nodes = c.in_ok-nodes.ensures;
}
