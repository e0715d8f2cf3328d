use Rattle.std.proofs.Common.{ℕ, List}
use Rattle.history_writer.specs.Sending.{output}
use Rattle.nt_text.specs.Document.{lines_of}
use Rattle.history_writer.proofs.KeptBack.{HoldsBack}
use Rattle.script.proofs.Standing.{Stands}
use Rattle.script.proofs.rehearsal.Rehearsal.answer_all.Given as goal

-- what was sent and what is held back answer the turns so far
abbrev pub invariant-loop-line : goal.invariant-loop-line
invariant-loop-line g l =
    (text : List ℕ)
    × Stands l.fn.self (lines_of l.script) l.line-iterator l.document l.self text
    × HoldsBack (output (g.K.Sink.written l.fn.out) (g.K.Sink.faults l.fn.out) (g.K.Sink.handed l.fn.out)) (output (g.K.Sink.written l.out) (g.K.Sink.faults l.out) (g.K.Sink.handed l.out))
    text l.kept.items
