use Rattle.std.proofs.Common.{◌≡◌, ℕ, ◌+◌, ◌-◌, ◌≤◌, List, length}
use Rattle.grid_out.specs.Link.{TakesOff}
use Rattle.line_serve.specs.AnsweredLines.{most_input}
use Rattle.line_serve.specs.Parts.{GoesOn, IsBegun}
use Rattle.line_serve.proofs.serving.serve_lines.Given as goal

abbrev pub invariant-loop-taken : goal.invariant-loop-taken
invariant-loop-taken g l = (bytes : List ℕ) × record {
  goes : GoesOn g.A.Answerer.answers l.fn.answerer l.answerer bytes l.lines-inside.begun (g.L.Link.written l.fn.link) (g.L.Link.written l.link);
  took : TakesOff (g.L.Link.left l.fn.link) (g.L.Link.left l.link) bytes;
  count : length bytes ≡ l.taken;
  within : l.taken ≤ most_input;
  begun : IsBegun l.lines-inside.begun;
  patient : g.A.Answerer.patience l.fn.answerer + length l.lines-inside.begun ≤ g.A.Answerer.patience l.answerer + l.taken;
  reads : g.L.Link.read_faults l.link ≡ g.L.Link.read_faults l.fn.link;
  sound : g.L.Link.write_faults l.link ≡ g.L.Link.write_faults l.fn.link;
}

abbrev pub decreases-loop-taken : goal.decreases-loop-taken
decreases-loop-taken g l = most_input - l.taken
