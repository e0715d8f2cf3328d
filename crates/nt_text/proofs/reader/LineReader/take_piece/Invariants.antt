use Rattle.std.proofs.Common.{length}
use Rattle.nt_text.proofs.ReaderLemmas.{IsTaking}
use Rattle.nt_text.proofs.reader.LineReader.take_piece.Given as goal

abbrev pub invariant-loop-line : goal.invariant-loop-line
invariant-loop-line l = IsTaking l.initial.self l.self l.piece l.left l.initial.into l.into

abbrev pub decreases-loop-line : goal.decreases-loop-line
decreases-loop-line l = length l.left
