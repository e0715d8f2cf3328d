use Rattle.std.proofs.Common.{ap, ◌∙◌}
use Rattle.cim_records.specs.declared.subject.Subject.{Subject}
use Rattle.cim_records.proofs.Known.{open_known}
use Rattle.cim_records.proofs.index.Index.open_of.Goals as goal

pub returns : goal.returns
returns c = ap (λ (s : Subject). s.is_open) c.subject.ensures.known ∙ open_known _ c.subject.ensures.faultless _
