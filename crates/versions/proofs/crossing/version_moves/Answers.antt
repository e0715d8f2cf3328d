use denote.Param.Send.{sendable}
use Rattle.versions.proofs.BetweenThreads.{version_sends}
use Rattle.versions.proofs.crossing.version_moves.Goals as goal

pub moves-requires-send-T : goal.moves-requires-send-T
moves-requires-send-T c κs = search (version_sends, sendable)
