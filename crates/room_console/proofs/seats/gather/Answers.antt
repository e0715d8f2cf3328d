use Rattle.std.proofs.Common.{sym}
use Rattle.desk.proofs.Queues.{all_taken}
use Rattle.room_console.proofs.Emptied.{emptied}
use Rattle.room_console.proofs.seats.gather.Goals as goal

pub returns : goal.returns
returns g c =
    let left = c.loop-posts.consoles in
    sym (all_taken c.args.consoles.items c.loop-posts.posts.items left.items c.loop-posts.invariant.0
    (emptied left.items left.len c.is_empty.result left.ok.0 c.is_empty.ensures c.loop-posts-test.false))
