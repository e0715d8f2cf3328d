use Rattle.std.proofs.Common.{◌≡◌}
use Rattle.board.specs.Opened.{opening_seat}
use Rattle.board.proofs.opening.laying.claim_all.Given as goal

abbrev pub invariant-loop-console : goal.invariant-loop-console
invariant-loop-console g l = (l.seat.table_id ≡ l.fn.seat.table_id) × (l.seat.me ≡ opening_seat l.consoles l.console 0 (g.V.Dated.log l.first) (g.V.Dated.origin l.first))
