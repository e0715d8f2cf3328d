use Rattle.room_console.proofs.NewPosts.{are_consoles, are_new}
use Rattle.room_console.proofs.room.start_room.Goals as goal

pub seat_all-returned-requires-clause-console : goal.seat_all-returned-requires-clause-console
seat_all-returned-requires-clause-console g c κs within =
    let open_ = c.in_ok-desk.ensures in
    are_consoles c.args.seed.consoles c.in_ok-desk.posts.items open_.posts open_.consoles.1

pub seat_all-returned-requires-clause-fresh : goal.seat_all-returned-requires-clause-fresh
seat_all-returned-requires-clause-fresh g c κs within =
    let open_ = c.in_ok-desk.ensures in
    are_new c.args.seed.consoles c.in_ok-desk.posts.items open_.posts g.N.RoomName.board (g.V.Dated.origin c.args.seed.first) c.args.seed.first open_.fresh
