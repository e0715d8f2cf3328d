use Rattle.versions.proofs.OneJudgement.{one_judgement}
use Rattle.versions.proofs.laws.histories_are_judged_in_one_way.Goals as goal

pub returns : goal.returns
returns c base log event answer other is is' =
    let judged = c.differences_have_one_judgement.ensures in
    one_judgement base log event (record { refused = judged.refused; either = judged.either; network = c.histories_leave_one_network.ensures }) answer other is is'
