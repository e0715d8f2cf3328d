use denote.Param.Send.{sendable}
use Rattle.versions.proofs.BetweenThreads.{version_syncs}
use Rattle.versions.proofs.crossing.version_is_shared.Goals as goal

pub is_shared-requires-sync-T : goal.is_shared-requires-sync-T
is_shared-requires-sync-T c κs = search (version_syncs, sendable)
