use Rattle.std.proofs.Common.{rules}
use Rattle.board.proofs.Learning.{can_note}
use Rattle.board.proofs.writer.Writer.note.Goals as goal

pub split_seat-seat-requires : goal.split_seat-seat-requires
split_seat-seat-requires g c = (search rules, search rules, can_note g.V.Dated.log g.V.Dated.origin _ c.self.inside.seat.me c.self.inside.backs.items c.self.inside.last c.self.invariant.4)
