use Rattle.versions.specs.History.{untouched}
use Rattle.versions.proofs.OneNetwork.{replays_one}
use Rattle.versions.proofs.laws.histories_leave_one_network.Goals as goal

pub returns : goal.returns
returns c base log now other is is' = replays_one c.differences_have_one_judgement.ensures.accepted log (untouched base) now other is is'
