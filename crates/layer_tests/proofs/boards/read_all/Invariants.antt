use Rattle.std.proofs.Common.{◌≡◌, length}
use Rattle.layer_tests.proofs.boards.read_all.Given as goal

abbrev pub invariant-loop-look : goal.invariant-loop-look
invariant-loop-look g l = (l.reader.board ≡ g.B.Naming.board) × (length l.reader.founds ≡ l.look)
