use Rattle.std.proofs.Common.{◌++◌, ◌∙◌, arith}
use Rattle.line_serve.proofs.SessionLaws.{goes_and_stops, goes_both, hands_on}
use Rattle.line_serve.proofs.going.serve_bytes.Goals as goal

pub returns-in_err-behind-clause-stops : goal.returns-in_err-behind-clause-stops
returns-in_err-behind-clause-stops g c =
    hands_on g.A.Answerer.answers _ _ c.from_residual.result _ _ _ _ c.from_residual.ensures.1
    (goes_and_stops g.A.Answerer.answers _ c.loop-behind.answerer _ _ _ (c.loop-behind.begun ++ c.loop-behind.rest.now) _ _ _ c.loop-behind.invariant.goes c.in_err-behind.ensures.stops)

pub loop-behind-preserved : goal.loop-behind-preserved
loop-behind-preserved g c = record {
  goes =
      goes_both g.A.Answerer.answers _ c.loop-behind.answerer _ _ (c.loop-behind.begun ++ c.loop-behind.rest.now) _ _ _ _
      c.loop-behind.invariant.goes (rw c.in-Some.is at c.in_ok-behind.ensures.line);
  patient = omega (arith, rw c.in-Some.is at c.in_ok-behind.ensures.patient);
  left = c.in_ok-behind.ensures.left ∙ c.loop-behind.invariant.left;
  reads = c.in_ok-behind.ensures.other ∙ c.loop-behind.invariant.reads;
  sound = c.in_ok-behind.ensures.sound ∙ c.loop-behind.invariant.sound;
}
