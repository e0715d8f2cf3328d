use Rattle.history_writer.specs.Sending.{output}
use Rattle.history_writer.proofs.Histories.{told_of}
use Rattle.history_writer.proofs.KeptBack.{HoldsBack}
use Rattle.history_writer.proofs.history.write_history.Given as goal

-- what was sent and what is held back are the text that was kept back, the first line and the entries so far
abbrev pub invariant-loop-index : goal.invariant-loop-index
invariant-loop-index g l =
    HoldsBack (output (g.K.Sink.written l.fn.out) (g.K.Sink.faults l.fn.out) (g.K.Sink.handed l.fn.out)) (output (g.K.Sink.written l.out) (g.K.Sink.faults l.out) (g.K.Sink.handed l.out))
    (told_of l.fn.kept.items l.newest.log l.index) l.text.items
