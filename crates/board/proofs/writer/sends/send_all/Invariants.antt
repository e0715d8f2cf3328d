use Rattle.std.proofs.Common.{◌≡◌, ◌-◌, length, replicate}
use Rattle.board.specs.Sent.{HasSent}
use Rattle.board.proofs.writer.sends.send_all.Given as goal

abbrev pub invariant-loop-console : goal.invariant-loop-console
invariant-loop-console g l =
    (l.seat.table_id ≡ l.fn.seat.table_id) × (l.shares.items ≡ replicate (length l.fn.backs.items - l.console) l.version)
    × HasSent g.V.Dated.log g.V.Dated.origin l.seat.me l.backs.items l.version l.console (length l.fn.backs.items)
