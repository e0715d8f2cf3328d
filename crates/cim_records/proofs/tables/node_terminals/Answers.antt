use Rattle.cim_records.proofs.Gathers.{node_gathered}
use Rattle.cim_records.proofs.tables.node_terminals.Goals as goal

pub returns : goal.returns
returns c = λ x. node_gathered c.args.statements.now c.requires.faultless x _ _ _ c.requires.subjects c.empty-groups.ensures (c.in_ok-gather.ensures x)
