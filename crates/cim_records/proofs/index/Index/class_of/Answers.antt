use Rattle.std.proofs.Common.{ap, sym, ◌∙◌}
use Rattle.cim_model.proofs.Classes.{is_of_by_class}
use Rattle.cim_model.specs.Network.{is_class}
use Rattle.cim_records.specs.declared.subject.Subject.{Subject}
use Rattle.cim_records.proofs.Known.{class_known}
use Rattle.cim_records.proofs.index.Index.class_of.Goals as goal

pub returns : goal.returns
returns c =
    let class = ap (λ (s : Subject). s.class) c.subject.ensures.known ∙ class_known _ c.subject.ensures.faultless _ in
    record { class = class; kinds = λ test. is_of_by_class test _ _ c.subject.ensures.faultless ∙ ap (is_class test) (sym class) }
