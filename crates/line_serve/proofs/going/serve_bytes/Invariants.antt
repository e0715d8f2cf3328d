use Rattle.std.proofs.Common.{◌≡◌, ◌+◌, ◌≤◌, ◌++◌, length}
use Rattle.line_serve.specs.Parts.{GoesOn}
use Rattle.line_serve.proofs.going.serve_bytes.Given as goal

abbrev pub invariant-loop-behind : goal.invariant-loop-behind
invariant-loop-behind g l = record {
  goes : GoesOn g.A.Answerer.answers l.fn.answerer l.answerer (l.fn.begun ++ l.bytes) (l.begun ++ l.rest) (g.L.Link.written l.fn.link) (g.L.Link.written l.link);
  patient : g.A.Answerer.patience l.fn.answerer + length (l.begun ++ l.rest) ≤ g.A.Answerer.patience l.answerer + length (l.fn.begun ++ l.bytes);
  left : g.L.Link.left l.link ≡ g.L.Link.left l.fn.link;
  reads : g.L.Link.read_faults l.link ≡ g.L.Link.read_faults l.fn.link;
  sound : g.L.Link.write_faults l.link ≡ g.L.Link.write_faults l.fn.link;
}

abbrev pub decreases-loop-behind : goal.decreases-loop-behind
decreases-loop-behind g l = length l.rest
