use Rattle.std.proofs.Common.{◌+◌, ◌<◌, ◌^◌, length}
use Rattle.word_tests.proofs.lines.feed_pieces.Given as goal

abbrev pub invariant-loop-left : goal.invariant-loop-left
invariant-loop-left l = l.reader.fed + length l.left < 2 ^ 32

abbrev pub decreases-loop-left : goal.decreases-loop-left
decreases-loop-left l = length l.left
