use denote.Param.Send.{sendable}
use Rattle.versions.proofs.BetweenThreads.{version_sends, version_syncs}
use Rattle.session_host.proofs.submits.look.Goals as goal

pub look-requires-send-V : goal.look-requires-send-V
look-requires-send-V g c κs within = search (version_sends, sendable)

pub look-requires-sync-V : goal.look-requires-sync-V
look-requires-sync-V g c κs within = search (version_syncs, sendable)
