use Rattle.cim_records.proofs.Stated.{all_joined}
use Rattle.cim_records.proofs.tables.phases.Goals as goal

pub returns : goal.returns
returns c = λ x. all_joined c.args.statements.now c.requires.faultless x _ _ _ _ _ c.requires.subjects c.empty-phases.ensures (c.in_ok-gather.ensures x) (c.in_ok-gather-2.ensures x) (c.in_ok-gather-3.ensures x)
