use Rattle.std.proofs.Common.{rules, length, sym, ap}
use Rattle.board.proofs.Opens.{can_enroll, can_arm, armed}
use Rattle.board.proofs.opening.laying.enroll.Goals as goal

pub split_seat-seat-requires : goal.split_seat-seat-requires
split_seat-seat-requires g c = (search rules, search rules, can_enroll g.V.Dated.log g.V.Dated.origin _ c.args.from.now.me c.args.consoles c.args.console c.args.first c.requires.seat (search rules))

pub load-requires : goal.load-requires
load-requires g c = (search rules, search rules, can_arm g.V.Dated.log g.V.Dated.origin _ _ c.args.from.now.me c.split_seat-seat.result.me c.args.consoles c.args.console c.args.first c.requires.seat c.split_seat-seat.ensures.4)

pub invariant_of-result : goal.invariant_of-result
invariant_of-result g c =
    let h = armed g.V.Dated.log g.V.Dated.origin 0 c.args.from.now.me c.split_seat-seat.result.me c.load.new.seat.me c.args.consoles c.args.console c.load.result c.number-number.result c.args.first c.requires.seat c.split_seat-seat.ensures.4 c.number-number.ensures c.load.ensures.2 in
    (search rules, search rules, search rules, ap length (sym h.founds), h.reader)
