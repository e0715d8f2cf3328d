use Rattle.std.proofs.Common.{List, ap, subst, ◌∙◌}
use Rattle.cim_words.specs.declared.identifier.Id.{Id}
use Rattle.cim_model.specs.Profile.{IsFaultless}
use Rattle.cim_records.specs.Found.{found}
use Rattle.cim_records.specs.Subject.{records}
use Rattle.cim_records.specs.declared.subject.Subject.{Subject}
use Rattle.cim_records.specs.declared.tables.Tables.{Tables}
use Rattle.cim_records.proofs.Taken.{equipment_found, no_equipment}
use Rattle.cim_records.proofs.index.Index.is_equipment.Goals as goal

pub returns-in-Some : goal.returns-in-Some
returns-in-Some c =
    let set = ap (λ (t : Tables). t.set) c.deref.ensures ∙ c.self.view_is in
    c.is_equipment.ensures
    ∙ equipment_found _ (subst IsFaultless set c.deref.result.now.faultless) c.args.id.number c.get.result c.in-Some.subject c.terminals_of.result.now
    (c.get.ensures ∙ ap (λ (subjects : List (Id × Subject)). found subjects c.args.id.number) (c.deref.result.now.of_subjects ∙ ap records set)) c.in-Some.is c.terminals_of.ensures

pub returns-in-None : goal.returns-in-None
returns-in-None c =
    no_equipment _ c.args.id.number c.get.result
    (c.get.ensures ∙ ap (λ (subjects : List (Id × Subject)). found subjects c.args.id.number) (c.deref.result.now.of_subjects ∙ ap records (ap (λ (t : Tables). t.set) c.deref.ensures ∙ c.self.view_is)))
    c.in-None.is
