use Rattle.std.proofs.Common.{ap, ◌∙◌}
use Rattle.cim_records.specs.declared.subject.Subject.{Subject}
use Rattle.cim_records.proofs.Known.{node_known}
use Rattle.cim_records.proofs.index.Index.node_of.Goals as goal

pub returns : goal.returns
returns c = ap (λ (s : Subject). s.node) c.subject.ensures.known ∙ node_known _ c.subject.ensures.faultless _
