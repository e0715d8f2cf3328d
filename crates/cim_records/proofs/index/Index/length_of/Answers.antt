use Rattle.std.proofs.Common.{ap, ◌∙◌}
use Rattle.cim_records.specs.declared.subject.Subject.{Subject}
use Rattle.cim_records.proofs.Known.{length_known}
use Rattle.cim_records.proofs.index.Index.length_of.Goals as goal

pub returns : goal.returns
returns c = ap (λ (s : Subject). s.length) c.subject.ensures.known ∙ length_known _ c.subject.ensures.faultless _
