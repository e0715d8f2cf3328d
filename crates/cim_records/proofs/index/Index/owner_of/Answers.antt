use Rattle.std.proofs.Common.{ap, ◌∙◌}
use Rattle.cim_records.specs.declared.subject.Subject.{Subject}
use Rattle.cim_records.proofs.Known.{owner_known}
use Rattle.cim_records.proofs.index.Index.owner_of.Goals as goal

pub returns : goal.returns
returns c = ap (λ (s : Subject). s.owner) c.subject.ensures.known ∙ owner_known _ c.subject.ensures.faultless _
