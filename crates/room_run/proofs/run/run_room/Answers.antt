use denote.Param.Send.{sendable}
use Rattle.versions.proofs.BetweenThreads.{version_sends, version_syncs}
use Rattle.room_run.proofs.run.run_room.Goals as goal

pub make-requires-send-V : goal.make-requires-send-V
make-requires-send-V g c κs = search (version_sends, sendable)

pub make-requires-sync-V : goal.make-requires-sync-V
make-requires-sync-V g c κs = search (version_syncs, sendable)
