use Rattle.std.proofs.Common.{◌≡◌, ℕ, ◌≤◌, ◌++◌, List, take}
use Rattle.desk.specs.Consoles.{IsConsole}
use Rattle.room_core.specs.Machine.{Runs, seen_by}
use Rattle.room_core.specs.declared.reply.CoreReply.{CoreReply}
use Rattle.room_core.proofs.room.RoomCore.run_events.Given as goal

-- the steps so far were made, and these are their replies
abbrev pub invariant-loop-event : goal.invariant-loop-event
invariant-loop-event g l =
    record {
      origin : l.self.origin ≡ l.fn.self.origin;
      seen : (console : ℕ) → IsConsole console → seen_by l.fn.self console ≤ seen_by l.self console;
      made : (replies : List CoreReply) × (l.into.items ≡ l.fn.into.items ++ replies) × Runs (g.V.Advance.judges l.fn.self.origin) l.fn.self (take l.event-index l.events) replies l.self;
    }
