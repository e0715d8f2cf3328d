use Rattle.difference.proofs.LineSteps.{IsReadTo}
use Rattle.difference.proofs.reading.read.Given as goal

abbrev pub invariant-loop-line : goal.invariant-loop-line
invariant-loop-line l = IsReadTo l.text l.number l.line-iterator l.draft
