use Rattle.std.proofs.Common.{◌≡◌, ℕ, ◌-◌, ◌<◌, ◌≤◌, length, get_or, map, subst, arith}
use Rattle.std.proofs.lemmas.List.{get_or-map}
use Rattle.desk.specs.Consoles.{IsConsole}
use Rattle.room_core.specs.Machine.{RoomState, seen_by}
use Rattle.room_core.proofs.room.RoomCore.history.Goals as goal

pub returns-clause-within : goal.returns-clause-within
returns-clause-within g c = subst (λ (r : RoomState g.row.V-Origin.Denot). (console : ℕ) → IsConsole console → seen_by r console ≤ length r.log) c.self.view_is within
  where
    within : (console : ℕ) → IsConsole console → get_or (map (λ (v : g.row.V.Denot). length (g.V.Dated.log v)) c.self.inside.shown.items) (console - 1) 0 ≤ length (g.V.Dated.log c.self.inside.newest)
    within console is =
        let below : console - 1 < length c.self.inside.shown.items = omega (arith, c.self.invariant.0, is.0, is.1) in
        rw (get_or-map (λ (v : g.row.V.Denot). length (g.V.Dated.log v)) c.self.inside.shown.items (console - 1) c.self.inside.newest 0 below) (c.self.invariant.2 (console - 1) c.self.inside.newest below).within
