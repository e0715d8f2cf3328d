use Rattle.std.proofs.Common.{rules}
use Rattle.board.proofs.Learning.{can_leave}
use Rattle.board.proofs.reader.Reader.leave.Goals as goal

pub load-requires : goal.load-requires
load-requires g c = (search rules, search rules, can_leave g.V.Dated.log g.V.Dated.origin _ _ c.self.inside.seat.me c.self.inside.console c.self.inside.front c.self.invariant.4)
