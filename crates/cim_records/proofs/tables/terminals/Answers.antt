use Rattle.cim_records.proofs.Gathers.{terminals_gathered}
use Rattle.cim_records.proofs.tables.terminals.Goals as goal

pub returns : goal.returns
returns c = λ x. terminals_gathered c.args.statements.now c.requires.faultless x _ _ _ _ c.requires.subjects c.empty-groups.ensures (c.in_ok-gather.ensures x) (c.in_ok-gather-2.ensures x)
