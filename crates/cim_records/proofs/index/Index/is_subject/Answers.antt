use Rattle.std.proofs.Common.{List, ap, ◌∙◌}
use Rattle.cim_words.specs.declared.identifier.Id.{Id}
use Rattle.cim_records.specs.Found.{found}
use Rattle.cim_records.specs.Subject.{records}
use Rattle.cim_records.specs.declared.subject.Subject.{Subject}
use Rattle.cim_records.specs.declared.tables.Tables.{Tables}
use Rattle.std.specs.Prelude.{is_some}
use Rattle.cim_records.proofs.Known.{subject_there}
use Rattle.cim_records.proofs.index.Index.is_subject.Goals as goal

pub returns : goal.returns
returns c =
    c.is_some.ensures
    ∙ ap is_some (c.get.ensures ∙ ap (λ (subjects : List (Id × Subject)). found subjects c.args.id.number) (c.deref.result.now.of_subjects ∙ ap records (ap (λ (t : Tables). t.set) c.deref.ensures ∙ c.self.view_is)))
    ∙ subject_there _ c.args.id.number
