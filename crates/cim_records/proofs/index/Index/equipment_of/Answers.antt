use Rattle.std.proofs.Common.{ap, ◌∙◌}
use Rattle.cim_records.specs.declared.subject.Subject.{Subject}
use Rattle.cim_records.proofs.Known.{equipment_known}
use Rattle.cim_records.proofs.index.Index.equipment_of.Goals as goal

pub returns : goal.returns
returns c = ap (λ (s : Subject). s.equipment) c.subject.ensures.known ∙ equipment_known _ c.subject.ensures.faultless _
