use Rattle.std.proofs.Common.{Err, ap}
use denote.Param.Send.{sendable}
use Rattle.versions.proofs.BetweenThreads.{version_sends, version_syncs}
use Rattle.session_host.proofs.Seeing.{enters, refuses}
use Rattle.session_host.proofs.submits.submit.Goals as goal

pub submit-requires-send-V : goal.submit-requires-send-V
submit-requires-send-V g c κs within = search (version_sends, sendable)

pub submit-requires-sync-V : goal.submit-requires-sync-V
submit-requires-sync-V g c κs within = search (version_syncs, sendable)

pub returns-in-Ok-clause-submits : goal.returns-in-Ok-clause-submits
returns-in-Ok-clause-submits g c base began history more = enters _ _ history more _ _ c.submit.ensures.looks c.in-Ok.ensures.entered

pub returns-in-Err-Refused-clause-submits : goal.returns-in-Err-Refused-clause-submits
returns-in-Err-Refused-clause-submits g c base began history more =
    refuses _ _ history more base _ _ began c.submit.ensures.looks (c.in-Err-Refused.ensures.refused _ (ap Err c.in-Err-Refused.field-0-is))
