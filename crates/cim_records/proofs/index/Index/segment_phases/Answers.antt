use Rattle.std.proofs.Common.{List, map, ap, subst, sym, ◌∙◌}
use Rattle.cim_words.specs.declared.identifier.Id.{Id}
use Rattle.cim_words.specs.declared.statement.Statement.{Statement}
use Rattle.cim_model.specs.Profile.{IsFaultless}
use Rattle.cim_records.specs.declared.tables.Tables.{Tables}
use Rattle.cim_model.specs.Network as network
use Rattle.cim_model.specs.Phases.{union}
use Rattle.cim_records.specs.Tables.{union_of}
use Rattle.cim_records.proofs.Phases.{none_stated}
use Rattle.cim_records.proofs.Sides.{union_by_side}
use Rattle.cim_records.proofs.index.Index.segment_phases.Goals as goal

pub returns-in-None : goal.returns-in-None
returns-in-None c =
    let set = ap (λ (t : Tables). t.set) c.deref.ensures ∙ c.self.view_is in
    c.terminal_phases.ensures
    ∙ ap (λ (ids : List Id). union (map (λ (id : Id). network.phases_of c.args.self.now id.number) ids)) c.terminals_of.ensures
    ∙ union_by_side _ (subst IsFaultless set c.deref.result.now.faultless) c.args.id.number
    ∙ sym (none_stated (network.part_phases c.args.self.now c.args.id.number) _
    (sym (c.get.ensures ∙ c.deref.result.now.of_phases c.args.id.number ∙ ap (λ (m : List Statement). union_of (network.part_phases m c.args.id.number)) set) ∙ c.in-None.is))
