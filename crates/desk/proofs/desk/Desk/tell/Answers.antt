use Rattle.std.proofs.Common.{rules}
use Rattle.desk.proofs.Holdings.{post_sees}
use Rattle.desk.proofs.desk.Desk.tell.Goals as goal

pub invariant_of-post : goal.invariant_of-post
invariant_of-post g c =
    let inside = c.post.inside in
    post_sees g.N.RoomName.board inside.reader inside.receipts.items inside.console inside.share.parts inside.share.amount c.post.invariant
    c.learn.new.self (search rules) (search rules) (search rules)
