use Rattle.std.proofs.Common.{◌≡◌, ℕ, ◌<◌, length, Some, slice_get}
use Rattle.board.specs.Ends.{newly_seated}
use Rattle.board.specs.Opened.{opening_seat}
use Rattle.board.proofs.opening.laying.enroll_all.Given as goal

abbrev pub invariant-loop-console : goal.invariant-loop-console
invariant-loop-console g l =
    (l.from.table_id ≡ l.fn.from.table_id) × (l.from.me ≡ opening_seat l.consoles l.consoles l.console (g.V.Dated.log l.first) (g.V.Dated.origin l.first))
    × (length l.readers.items ≡ l.console)
    × ((c : ℕ) → c < l.console → slice_get l.readers.items c ≡ Some (newly_seated l.fn.from.table_id c (g.V.Dated.log l.first) (g.V.Dated.origin l.first) l.first))
