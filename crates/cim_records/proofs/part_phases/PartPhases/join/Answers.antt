use Rattle.std.proofs.Common.{◌==◌, List, Some, cond, ap, ◌∙◌}
use Rattle.cim_words.specs.declared.identifier.Id.{Id}
use Rattle.cim_words.specs.declared.phases.PhaseSet.{PhaseSet}
use Rattle.cim_records.specs.Found.{found}
use Rattle.cim_records.specs.Joined.{join_one}
use Rattle.cim_records.proofs.Updates.{found_set}
use Rattle.cim_records.proofs.part_phases.PartPhases.join.Goals as goal

pub returns : goal.returns
returns c =
    found_set c.args.self.now _ c.args.id.number c.joined-joined.result (λ x. join_one (found c.args.self.now x) c.args.phases)
    (λ x. c.in_ok-insert.ensures.updates.0 (record { number = x }) ∙ ap (λ (sets : List (Id × PhaseSet)). cond (c.args.id.number == x) (Some c.joined-joined.result) (found sets x)) c.self.view_is)
    (c.joined-joined.ensures ∙ ap (λ o. join_one o c.args.phases) c.get.ensures)
