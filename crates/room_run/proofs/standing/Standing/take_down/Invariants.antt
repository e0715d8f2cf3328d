use Rattle.std.proofs.Common.{◌≡◌, ◌≤◌, ◌+◌, ◌++◌, length, map, vec_capacity}
use Rattle.room_run.specs.Standing.{counts_of, doors_of, posts_of}
use Rattle.session_host.specs.Doors.{DoorWords, door_shown}
use Rattle.room_run.proofs.standing.Standing.take_down.Given as goal

-- what left its door, and what still stands there
abbrev pub invariant-loop-stands : goal.invariant-loop-stands
invariant-loop-stands g l =
    let words : DoorWords g.row.D.Denot g.row.D-L.Denot = record {
      number = g.D.Door.number;
      faults = g.D.Door.faults;
      coming = g.D.Door.coming;
      back = g.D.Door.back;
      lent = g.D.Door.lent;
      left = g.D.L.Link.left;
      written = g.D.L.Link.written;
      read_faults = g.D.L.Link.read_faults;
      write_faults = g.D.L.Link.write_faults;
    } in
    (l.consoles.items ++ posts_of l.stands.items ≡ posts_of l.fn.self.stands.items)
    × (map (door_shown words) l.doors.items ++ doors_of l.stands.items ≡ doors_of l.fn.self.stands.items)
    × (l.ends.items ++ counts_of l.stands.items ≡ counts_of l.fn.self.stands.items)
    × (length l.consoles.items + length l.stands.items ≤ vec_capacity l.consoles)
    × (length l.doors.items + length l.stands.items ≤ vec_capacity l.doors)
    × (length l.ends.items + length l.stands.items ≤ vec_capacity l.ends)

abbrev pub decreases-loop-stands : goal.decreases-loop-stands
decreases-loop-stands g l = length l.stands.items
