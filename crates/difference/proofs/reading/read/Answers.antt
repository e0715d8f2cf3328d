use Rattle.difference.proofs.LineSteps.{read_on}
use Rattle.difference.proofs.reading.read.Goals as goal

pub loop-line-preserved : goal.loop-line-preserved
loop-line-preserved c =
    let next = rw c.in-Some.is at c.next.ensures.steps in
    read_on c.args.text.now c.loop-line.number c.loop-line.line-iterator c.next.new.self c.in-Some.line.now c.loop-line.draft c.take_line.new.self
    c.loop-line.invariant next c.in_ok-take_line.ensures.ok
