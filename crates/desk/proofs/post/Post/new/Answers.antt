use Rattle.desk.proofs.Holdings.{post_begins}
use Rattle.desk.proofs.post.Post.new.Goals as goal

pub invariant_of-result : goal.invariant_of-result
invariant_of-result g c =
    post_begins g.N.RoomName.board c.args.reader c.new.result.items c.args.console c.args.share.parts c.args.share.amount
    c.requires.board c.requires.console c.requires.range c.requires.share.0 c.requires.share.1 c.new.ensures.items
