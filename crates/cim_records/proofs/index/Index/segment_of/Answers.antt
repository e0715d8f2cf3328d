use Rattle.std.proofs.Common.{ap, ◌∙◌}
use Rattle.cim_records.specs.declared.subject.Subject.{Subject}
use Rattle.cim_records.proofs.Known.{segment_known}
use Rattle.cim_records.proofs.index.Index.segment_of.Goals as goal

pub returns : goal.returns
returns c = ap (λ (s : Subject). s.segment) c.subject.ensures.known ∙ segment_known _ c.subject.ensures.faultless _
