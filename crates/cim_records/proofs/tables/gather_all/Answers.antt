use Rattle.cim_records.proofs.tables.gather_all.Goals as goal

pub returns : goal.returns
returns c = record {
  of_terminals = c.in_ok-terminals.ensures;
  of_node_terminals = c.in_ok-node_terminals.ensures;
  of_phases = c.in_ok-phases.ensures;
  of_marks = c.in_ok-marks.ensures;
}
