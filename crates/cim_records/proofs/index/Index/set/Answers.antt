use Rattle.std.proofs.Common.{ap, subst, ◌∙◌}
use Rattle.cim_model.specs.Profile.{IsFaultless}
use Rattle.cim_records.specs.declared.tables.Tables.{Tables}
use Rattle.cim_records.proofs.index.Index.set.Goals as goal

pub returns-clause-faultless : goal.returns-clause-faultless
returns-clause-faultless c = subst IsFaultless (ap (λ (t : Tables). t.set) c.deref.ensures ∙ c.self.view_is) c.deref.result.now.faultless
