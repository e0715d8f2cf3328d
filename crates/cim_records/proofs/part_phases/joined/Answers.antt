use Rattle.std.proofs.Common.{ap, sym, Option, ◌∙◌}
use Rattle.cim_words.specs.declared.phases.PhaseSet.{PhaseSet}
use Rattle.cim_records.specs.Joined.{join_one}
use Rattle.cim_records.proofs.Phases.{set_is}
use Rattle.cim_records.proofs.part_phases.joined.Goals as goal

pub returns-in-Some : goal.returns-in-Some
returns-in-Some c = set_is c.join.result _ c.join.ensures ∙ ap (λ (set : Option PhaseSet). join_one set c.args.phases) (sym c.in-Some.is)
