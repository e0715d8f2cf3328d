use Rattle.std.proofs.Common.{◌≡◌, ◌-◌, ◌≤◌, length}
use Rattle.room_core.specs.Views.{HasSeen}
use Rattle.room_core.proofs.room.RoomCore.version_at.Given as goal

-- the version has a prefix of the history that is no longer than what is wanted
abbrev pub invariant-loop-version : goal.invariant-loop-version
invariant-loop-version g l =
    record {
      seen : HasSeen l.self.origin (g.V.Dated.origin l.version) l.self.log (g.V.Dated.log l.version);
      within : length (g.V.Dated.log l.version) ≤ l.number;
    }

abbrev pub decreases-loop-version : goal.decreases-loop-version
decreases-loop-version g l = l.number - length (g.V.Dated.log l.version)
