use Rattle.std.proofs.Common.{ap, subst, ◌∙◌}
use Rattle.cim_model.specs.Profile.{IsFaultless}
use Rattle.cim_records.specs.declared.tables.Tables.{Tables}
use Rattle.cim_model.proofs.FaultlessTerminals.{stands_at}
use Rattle.cim_records.proofs.index.Index.at_node.Goals as goal

pub returns-clause-just : goal.returns-clause-just
returns-clause-just c = stands_at _ (subst IsFaultless (ap (λ (t : Tables). t.set) c.deref.ensures ∙ c.self.view_is) c.deref.result.now.faultless) c.args.node.number
