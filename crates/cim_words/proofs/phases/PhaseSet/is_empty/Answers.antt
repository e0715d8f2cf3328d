use Rattle.std.proofs.Common.{◌≡◌, rules}
use Rattle.cim_words.specs.Phases.{has_no_phase}
use Rattle.cim_words.proofs.PhaseTexts.{has_no_phase-means}
use Rattle.cim_words.proofs.phases.PhaseSet.is_empty.Goals as goal

pub returns-clause-phases : goal.returns-clause-phases
returns-clause-phases c =
    let same : c.eq.result ≡ has_no_phase c.args.self = search rules in
    rw same (has_no_phase-means c.args.self)
