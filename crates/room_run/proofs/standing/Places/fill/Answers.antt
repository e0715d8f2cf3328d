use Rattle.std.proofs.Common.{rules, ◌≡◌, suc, List, ◌∷◌, ◌++◌, [], length, map, ap, sym, subst, arith, length-append}
use Rattle.std.proofs.lemmas.List.Elements.{All-append, All-cons, All-nil}
use Rattle.desk.proofs.Queues.{first_off}
use Rattle.room_run.proofs.Taking.{one_taken}
use Rattle.room_run.specs.Standing.{AllFresh, doors_of, posts_of}
use Rattle.session_host.specs.Doors.{AtDoor, DoorWords, IsFresh, door_shown}
use Rattle.room_run.proofs.standing.Places.fill.Goals as goal

pub loop-consoles-preserved : goal.loop-consoles-preserved
loop-consoles-preserved g c =
    let words : DoorWords g.row.D.Denot g.row.D-L.Denot = record {
      number = g.D.Door.number;
      faults = g.D.Door.faults;
      coming = g.D.Door.coming;
      back = g.D.Door.back;
      lent = g.D.Door.lent;
      left = g.D.L.Link.left;
      written = g.D.L.Link.written;
      read_faults = g.D.L.Link.read_faults;
      write_faults = g.D.L.Link.write_faults;
    } in
    let before = c.loop-consoles in
    let inv = before.invariant in
    let stand = c.new.result in
    let console : before.consoles.items ≡ c.remove-console.result ∷ c.remove-console.new.self.items =
    first_off before.consoles.items c.remove-console.new.self.items c.remove-console.result (search rules) c.remove-console.ensures.value (search rules) in
    let door : before.doors.items ≡ c.remove-door.result ∷ c.remove-door.new.self.items =
    first_off before.doors.items c.remove-door.new.self.items c.remove-door.result (search rules) c.remove-door.ensures.value (search rules) in
    let lines = first_off before.rooms.items c.remove-lines.new.self.items c.remove-lines.result (search rules) c.remove-lines.ensures.value (search rules) in
    let consoles : length before.consoles.items ≡ suc (length c.remove-console.new.self.items) = ap length console in
    let doors : length before.doors.items ≡ suc (length c.remove-door.new.self.items) = ap length door in
    let rooms : length before.rooms.items ≡ suc (length c.remove-lines.new.self.items) = ap length lines in
    let stands = length-append before.stands.items (stand ∷ []) in
    let pushed : c.push_reserved.new.self.items ≡ before.stands.items ++ stand ∷ [] = c.push_reserved.ensures.items in
    let longer : length c.push_reserved.new.self.items ≡ length (before.stands.items ++ stand ∷ []) = ap length pushed in (
      subst (λ (l : List AtDoor). posts_of l ++ c.remove-console.new.self.items ≡ c.args.consoles.items) (sym pushed)
          (one_taken (λ (s : AtDoor). s.post) before.stands.items stand before.consoles.items c.remove-console.new.self.items c.remove-console.result c.args.consoles.items inv.0 console c.new.ensures.post),
      subst (λ (l : List AtDoor). doors_of l ++ map (door_shown words) c.remove-door.new.self.items ≡ map (door_shown words) c.args.doors.items) (sym pushed)
          (one_taken (λ (s : AtDoor). s.door) before.stands.items stand (map (door_shown words) before.doors.items) (map (door_shown words) c.remove-door.new.self.items)
          (door_shown words c.remove-door.result) (map (door_shown words) c.args.doors.items) inv.1 (ap (map (door_shown words)) door) c.new.ensures.door),
      subst AllFresh (sym pushed) (All-append (λ (s : AtDoor). IsFresh s.counted) before.stands.items (stand ∷ []) inv.2
          (All-cons (λ (s : AtDoor). IsFresh s.counted) stand [] c.new.ensures.fresh (All-nil (λ (s : AtDoor). IsFresh s.counted)))),
      omega (arith, consoles, doors, inv.3),
      omega (arith, rooms, doors, inv.4),
      omega (arith, stands, doors, longer, inv.5),
      search rules,
      search rules,
      search rules,
    )
