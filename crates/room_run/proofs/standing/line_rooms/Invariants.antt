use Rattle.std.proofs.Common.{◌≡◌, length}
use Rattle.room_run.proofs.standing.line_rooms.Given as goal

-- one for each turn
abbrev pub invariant-loop : goal.invariant-loop
invariant-loop l = length l.rooms.items ≡ l.counter
