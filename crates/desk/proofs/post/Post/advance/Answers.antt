use Rattle.std.proofs.Common.{rules}
use Rattle.desk.proofs.Holdings.{post_sees}
use Rattle.desk.proofs.post.Post.advance.Goals as goal

pub invariant_of-self : goal.invariant_of-self
invariant_of-self g c =
    let inside = c.self.inside in
    post_sees g.N.RoomName.board inside.reader inside.receipts.items inside.console inside.share.parts inside.share.amount c.self.invariant
    c.look.follows.lender-at-none (search rules) (search rules) (search rules)
