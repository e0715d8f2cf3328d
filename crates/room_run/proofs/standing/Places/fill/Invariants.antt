use Rattle.std.proofs.Common.{◌≡◌, ◌≤◌, ◌+◌, ◌++◌, length, map, vec_capacity}
use Rattle.room_run.specs.Standing.{AllFresh, doors_of, posts_of}
use Rattle.session_host.specs.Doors.{DoorWords, door_shown}
use Rattle.room_run.proofs.standing.Places.fill.Given as goal

-- the consoles that stand at their doors, and those that are left
abbrev pub invariant-loop-consoles : goal.invariant-loop-consoles
invariant-loop-consoles g l =
    let words : DoorWords g.row.D.Denot g.row.D-L.Denot = record {
      number = g.D.Door.number;
      faults = g.D.Door.faults;
      coming = g.D.Door.coming;
      back = g.D.Door.back;
      lent = g.D.Door.lent;
      left = g.D.L.Link.left;
      written = g.D.L.Link.written;
      read_faults = g.D.L.Link.read_faults;
      write_faults = g.D.L.Link.write_faults;
    } in
    (posts_of l.stands.items ++ l.consoles.items ≡ l.fn.consoles.items)
    × (doors_of l.stands.items ++ map (door_shown words) l.doors.items ≡ map (door_shown words) l.fn.doors.items)
    × AllFresh l.stands.items
    × (length l.doors.items ≡ length l.consoles.items)
    × (length l.rooms.items ≡ length l.doors.items)
    × (length l.stands.items + length l.doors.items ≡ length l.fn.doors.items)
    × (length l.fn.doors.items ≤ vec_capacity l.stands)
    × (length l.fn.doors.items ≤ vec_capacity l.consoles)
    × (length l.fn.doors.items ≤ vec_capacity l.doors)

abbrev pub decreases-loop-consoles : goal.decreases-loop-consoles
decreases-loop-consoles g l = length l.doors.items
