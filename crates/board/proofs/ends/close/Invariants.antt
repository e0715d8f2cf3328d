use Rattle.std.proofs.Common.{◌≡◌, List, ◌++◌, All, vec_len}
use Rattle.board.specs.Lists.{IsPrefix}
use Rattle.board.specs.Ends.{ReaderState}
use Rattle.board.proofs.ends.close.Given as goal

abbrev pub invariant-loop-reader : goal.invariant-loop-reader
invariant-loop-reader g l =
    (done : List (ReaderState g.row.V.Denot g.row.V-Item.Denot g.row.V-Origin.Denot)) × (l.fn.readers.items ≡ l.readers.items ++ done) × (l.writer ≡ l.fn.writer)
    × All (λ r. IsPrefix r.seen (g.V.Dated.log l.fn.writer.last) × (r.origin ≡ l.fn.writer.origin)) done

abbrev pub decreases-loop-reader : goal.decreases-loop-reader
decreases-loop-reader g l = vec_len l.readers
