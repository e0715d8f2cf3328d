use Rattle.std.proofs.Common.{List, ap, subst, ◌∙◌}
use Rattle.cim_words.specs.declared.identifier.Id.{Id}
use Rattle.cim_model.specs.Profile.{IsFaultless}
use Rattle.cim_records.specs.Found.{known_of}
use Rattle.cim_records.specs.Subject.{records}
use Rattle.cim_records.specs.declared.subject.Subject.{Subject}
use Rattle.cim_records.specs.declared.tables.Tables.{Tables}
use Rattle.cim_records.proofs.index.Index.subject.Goals as goal

pub returns : goal.returns
returns c =
    let set = ap (λ (t : Tables). t.set) c.deref.ensures ∙ c.self.view_is in
    record {
      known = c.at.ensures ∙ ap (λ (subjects : List (Id × Subject)). known_of subjects c.args.id.number) (c.deref.result.now.of_subjects ∙ ap records set);
      faultless = subst IsFaultless set c.deref.result.now.faultless;
    }
