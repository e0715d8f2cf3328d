use denote.Param.Send.{sendable, param_send}
use Rattle.std.proofs.alloc.Global.TheSendSync as global
use Rattle.room_console.proofs.room.Room.TheSendSync as room
use Rattle.versions.proofs.BetweenThreads.{version_sends}
use Rattle.session_host.proofs.BetweenThreads.{four_sync, stand_sends}
use Rattle.session_host.proofs.doors.serve_doors.Goals as goal

pub for_each_mut-requires-send-T : goal.for_each_mut-requires-send-T
for_each_mut-requires-send-T g c κs within = search (param_send, stand_sends, sendable)

pub for_each_mut-requires-sync-F : goal.for_each_mut-requires-sync-F
for_each_mut-requires-sync-F g c κs within =
    search (four_sync, room.the_sync, global.the_sync, version_sends, sendable) depth 12
