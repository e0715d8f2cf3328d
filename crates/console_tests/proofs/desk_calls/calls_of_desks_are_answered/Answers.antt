use denote.Param.Send.{sendable}
use Rattle.versions.proofs.BetweenThreads.{version_sends, version_syncs}
use Rattle.console_tests.proofs.desk_calls.calls_of_desks_are_answered.Goals as goal

pub desk_day-requires-send-V : goal.desk_day-requires-send-V
desk_day-requires-send-V g c κs = search (version_sends, sendable)

pub desk_day-requires-sync-V : goal.desk_day-requires-sync-V
desk_day-requires-sync-V g c κs = search (version_syncs, sendable)
