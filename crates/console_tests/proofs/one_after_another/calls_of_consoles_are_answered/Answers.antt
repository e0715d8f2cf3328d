use denote.Param.Send.{sendable}
use Rattle.versions.proofs.BetweenThreads.{version_sends, version_syncs}
use Rattle.console_tests.proofs.one_after_another.calls_of_consoles_are_answered.Goals as goal

pub day-requires-send-V : goal.day-requires-send-V
day-requires-send-V g c κs = search (version_sends, sendable)

pub day-requires-sync-V : goal.day-requires-sync-V
day-requires-sync-V g c κs = search (version_syncs, sendable)
