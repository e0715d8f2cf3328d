-- A console at its door may move between threads where the door may.
use denote.RattleType.{RattleType}
use denote.Param.Send.{IsSend, IsSync, sendable, view_send}
use denote.Param.SendFields.{as_row_sync, declared_send, declared_sync}
use denote.Struct.Tuple.{TupleAt, type_at}
use mathlib.Core.List.{[], ◌∷◌}
use mir.Syntax.{Sym}
use Rattle.std.specs.declared.sync.ledger.Ledger.{Ghosts as LedgerGhosts}
use Rattle.desk.specs.declared.name.RoomName.{Ghosts as NameGhosts}
use Rattle.grid_out.specs.declared.door.Door.{Ghosts as DoorGhosts}
use Rattle.grid_out.specs.declared.link.Link.{Ghosts as LinkGhosts}
use Rattle.line_serve.proofs.lines.LineRoom.TheSendSync as lines
use Rattle.room_console.proofs.console.Console.TheSendSync as console
use Rattle.versions.proofs.BetweenThreads.{version_sends}
use Rattle.session_host.specs.contracts.doors.Stand as Stand
use Rattle.session_host.specs.contracts.doors.Stand.TheInside as StandInside

module _ (D N L : RattleType) (door : DoorGhosts D.Denot L.Denot) (link : LinkGhosts L.Denot) (name : NameGhosts N.Denot) (ledger : LedgerGhosts N.Denot) where
  pub stand_sends : IsSend D → IsSend (Stand.the_row D N L door link name ledger)
  stand_sends sends =
      let f : IsSend (StandInside.the_row D N L door link name ledger) =
      declared_send (StandInside.the_type D N L door link name ledger) (
        search (console.the_send, version_sends, sendable) depth 20,
        (search (sends, sendable) depth 20, (search (lines.the_send, sendable) depth 20, (search sendable depth 20, tt))),
      ) in
      search (view_send, f)

-- what a closure captures may be shared where each of four may
pub four_sync : (name : Sym) (A B C D : RattleType) → IsSync A → IsSync B → IsSync C → IsSync D → IsSync (TupleAt name (A ∷ B ∷ C ∷ D ∷ []))
four_sync name A B C D a b c d = declared_sync (type_at name (A ∷ B ∷ C ∷ D ∷ [])) (search (as_row_sync, a), (search (as_row_sync, b), (search (as_row_sync, c), (search (as_row_sync, d), tt))))
