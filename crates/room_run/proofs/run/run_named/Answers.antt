use Rattle.std.proofs.Common.{◌≡◌, ◌<◌, List, length, map, drop, All, Some, ap, sym, subst, ◌∙◌, arith}
use Rattle.std.proofs.lemmas.List.{length-map}
use Rattle.std.specs.List.{sum_by}
use denote.Param.Send.{sendable}
use Rattle.board.specs.Lists.{IsPrefix}
use Rattle.cim_words.specs.declared.statement.Statement.{Statement}
use Rattle.desk.specs.Ends.{AreAllPosts, number_of}
use Rattle.desk.specs.Legal.{IsLegal}
use Rattle.desk.specs.Receipts.{AreNumbered, receipts_in}
use Rattle.room_run.specs.Runs.{IsRun}
use Rattle.room_run.specs.Standing.{counts_of, doors_of, posts_of}
use Rattle.room_run.proofs.Running.{AreNew, Closes, EachServed, all_at, all_posts, each_served, is_run, new_stands, no_looks, same_base, same_places, written}
use Rattle.session_host.specs.Doors.{AtDoor, DoorShown, DoorWords, IsFresh, door_shown}
use Rattle.session_host.specs.Told.{Post}
use Rattle.session_host.specs.declared.door_end.DoorEnd.{DoorEnd}
use Rattle.versions.proofs.BetweenThreads.{version_sends, version_syncs}
use Rattle.versions.specs.History.{Judges}
use Rattle.room_run.proofs.run.run_named.Goals as goal

pub start_room-requires-send-V : goal.start_room-requires-send-V
start_room-requires-send-V g c κs within = search (version_sends, sendable)

pub start_room-requires-sync-V : goal.start_room-requires-sync-V
start_room-requires-sync-V g c κs within = search (version_syncs, sendable)

pub serve_doors-requires-clause-looks : goal.serve_doors-requires-clause-looks
serve_doors-requires-clause-looks g c κs within =
    let xs = c.as_mut_slice.result.now in
    let new : AreNew c.args.seed.first.base 0 (posts_of xs) =
    new_stands c.args.seed.first.base g.N.RoomName.board c.args.seed.first c.args.seed.consoles c.in-Ok.consoles.items xs
    (ap posts_of c.as_mut_slice.ensures.value ∙ c.in-Ok-stand_all.ensures.posts) c.in-Ok.ensures.consoles c.in-Ok.ensures.fresh in
    no_looks c.args.seed.first.base 0 xs new

pub serve_doors-requires-clause-fresh : goal.serve_doors-requires-clause-fresh
serve_doors-requires-clause-fresh g c κs within =
    all_at (λ (s : AtDoor). IsFresh s.counted) c.as_mut_slice.result.now (subst (All (λ (s : AtDoor). IsFresh s.counted)) (sym c.as_mut_slice.ensures.value) c.in-Ok-stand_all.ensures.fresh)

pub close_room-closed-requires-send-V : goal.close_room-closed-requires-send-V
close_room-closed-requires-send-V g c κs within = search (version_sends, sendable)

pub close_room-closed-requires-sync-V : goal.close_room-closed-requires-sync-V
close_room-closed-requires-sync-V g c κs within = search (version_syncs, sendable)

pub close_room-closed-requires-clause-all : goal.close_room-closed-requires-clause-all
close_room-closed-requires-clause-all g c κs within =
    let xs = c.as_mut_slice.result.now in
    let ys = c.serve_doors.new.stands in
    let each : EachServed xs ys = each_served xs ys c.serve_doors.ensures.count c.serve_doors.ensures.each in
    let back = written ys (drop (length ys) c.in-Ok-stand_all.standing.stands.items) c.in-Ok-stand_all.standing.stands.len (c.serve_doors.ensures.count ∙ c.as_mut_slice.ensures.len) in
    let left : c.take_down-consoles.result.0.items ≡ posts_of ys = c.take_down-consoles.ensures.posts ∙ ap posts_of back in
    let opened : AreAllPosts g.N.RoomName.posts (posts_of xs) =
    subst (AreAllPosts g.N.RoomName.posts) (sym (ap posts_of c.as_mut_slice.ensures.value ∙ c.in-Ok-stand_all.ensures.posts))
    (subst (λ n. AreAllPosts n c.in-Ok.consoles.items) c.requires.board.1 c.in-Ok.ensures.consoles) in
    subst (AreAllPosts g.N.RoomName.posts) (sym left) (all_posts g.N.RoomName.posts (posts_of xs) (posts_of ys) (same_places xs ys each) opened)

pub returns-clause-base : goal.returns-clause-base
returns-clause-base g c =
    let xs = c.as_mut_slice.result.now in
    let new : AreNew c.args.seed.first.base 0 (posts_of xs) =
    new_stands c.args.seed.first.base g.N.RoomName.board c.args.seed.first c.args.seed.consoles c.in-Ok.consoles.items xs
    (ap posts_of c.as_mut_slice.ensures.value ∙ c.in-Ok-stand_all.ensures.posts) c.in-Ok.ensures.consoles c.in-Ok.ensures.fresh in
    let ys = c.serve_doors.new.stands in
    let each : EachServed xs ys = each_served xs ys c.serve_doors.ensures.count c.serve_doors.ensures.each in
    let back = written ys (drop (length ys) c.in-Ok-stand_all.standing.stands.items) c.in-Ok-stand_all.standing.stands.len (c.serve_doors.ensures.count ∙ c.as_mut_slice.ensures.len) in
    let left : c.take_down-consoles.result.0.items ≡ posts_of ys = c.take_down-consoles.ensures.posts ∙ ap posts_of back in
    let some : 0 < length xs =
    let values : length xs ≡ length c.in-Ok-stand_all.standing.stands.items = ap length c.as_mut_slice.ensures.value in
    let posts : length (posts_of c.in-Ok-stand_all.standing.stands.items) ≡ length c.in-Ok.consoles.items = ap length c.in-Ok-stand_all.ensures.posts in
    let mapped = length-map c.in-Ok-stand_all.standing.stands.items (λ (s : AtDoor). s.post) in
    let count = c.in-Ok.ensures.consoles.count in
    omega (arith, values, posts, mapped, count, c.requires.doors.0, c.requires.doors.1) in
    same_base c.args.seed.first.base c.close_room-closed.result.last.base xs ys each new
    (subst (All (λ (p : Post). p.reader.origin ≡ Some c.close_room-closed.result.last.base)) left c.close_room-closed.ensures.began) some

pub returns-clause-run : goal.returns-clause-run
returns-clause-run g c =
    let words : DoorWords g.row.D.Denot g.row.D-L.Denot = record {
      number = g.D.Door.number;
      faults = g.D.Door.faults;
      coming = g.D.Door.coming;
      back = g.D.Door.back;
      lent = g.D.Door.lent;
      left = g.D.L.Link.left;
      written = g.D.L.Link.written;
      read_faults = g.D.L.Link.read_faults;
      write_faults = g.D.L.Link.write_faults;
    } in
    let xs = c.as_mut_slice.result.now in
    let new : AreNew c.args.seed.first.base 0 (posts_of xs) =
    new_stands c.args.seed.first.base g.N.RoomName.board c.args.seed.first c.args.seed.consoles c.in-Ok.consoles.items xs
    (ap posts_of c.as_mut_slice.ensures.value ∙ c.in-Ok-stand_all.ensures.posts) c.in-Ok.ensures.consoles c.in-Ok.ensures.fresh in
    let ys = c.serve_doors.new.stands in
    let each : EachServed xs ys = each_served xs ys c.serve_doors.ensures.count c.serve_doors.ensures.each in
    let back = written ys (drop (length ys) c.in-Ok-stand_all.standing.stands.items) c.in-Ok-stand_all.standing.stands.len (c.serve_doors.ensures.count ∙ c.as_mut_slice.ensures.len) in
    let left : c.take_down-consoles.result.0.items ≡ posts_of ys = c.take_down-consoles.ensures.posts ∙ ap posts_of back in
    let some : 0 < length xs =
    let values : length xs ≡ length c.in-Ok-stand_all.standing.stands.items = ap length c.as_mut_slice.ensures.value in
    let posts : length (posts_of c.in-Ok-stand_all.standing.stands.items) ≡ length c.in-Ok.consoles.items = ap length c.in-Ok-stand_all.ensures.posts in
    let mapped = length-map c.in-Ok-stand_all.standing.stands.items (λ (s : AtDoor). s.post) in
    let count = c.in-Ok.ensures.consoles.count in
    omega (arith, values, posts, mapped, count, c.requires.doors.0, c.requires.doors.1) in
    let history = c.close_room-closed.result.last.log in
    let closes : Closes history (posts_of ys) = record {
      seen = subst (All (λ (p : Post). IsPrefix p.reader.seen history)) left c.close_room-closed.ensures.seen;
      receipts = subst (All (λ (p : Post). p.receipts ≡ receipts_in (number_of p) history)) left c.close_room-closed.ensures.receipts;
      serials = subst (All (λ (p : Post). AreNumbered p.receipts)) left c.close_room-closed.ensures.serials;
    } in
    let legal : IsLegal (Judges c.args.seed.first.base) history =
    subst (λ (base : List Statement). IsLegal (Judges base) history) (same_base c.args.seed.first.base c.close_room-closed.result.last.base xs ys each new
    (subst (All (λ (p : Post). p.reader.origin ≡ Some c.close_room-closed.result.last.base)) left c.close_room-closed.ensures.began) some) c.close_room-closed.ensures.legal in
    let all : sum_by (λ (p : Post). length p.receipts) (posts_of ys) ≡ length history =
    subst (λ (ps : List Post). sum_by (λ (p : Post). length p.receipts) ps ≡ c.close_room-closed.result.made) left c.close_room-closed.ensures.all ∙ c.close_room-closed.ensures.made in
    let run : IsRun c.args.seed.first.base history (doors_of xs) (doors_of ys) (counts_of ys) = is_run c.args.seed.first.base history xs ys each new closes legal all in
    let doors_before : doors_of xs ≡ map (door_shown words) c.args.doors.items = ap doors_of c.as_mut_slice.ensures.value ∙ c.in-Ok-stand_all.ensures.doors in
    let doors_after : map (door_shown words) c.take_down-consoles.result.1.items ≡ doors_of ys = c.take_down-consoles.ensures.doors ∙ ap doors_of back in
    let counts : c.take_down-consoles.result.2.items ≡ counts_of ys = c.take_down-consoles.ensures.counts ∙ ap counts_of back in
    subst (λ (l : List DoorEnd). IsRun c.args.seed.first.base history (map (door_shown words) c.args.doors.items) (map (door_shown words) c.take_down-consoles.result.1.items) l) (sym counts)
    (subst (λ (l : List DoorShown). IsRun c.args.seed.first.base history (map (door_shown words) c.args.doors.items) l (counts_of ys)) (sym doors_after)
    (subst (λ (l : List DoorShown). IsRun c.args.seed.first.base history l (doors_of ys) (counts_of ys)) doors_before run))
