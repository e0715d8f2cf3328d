use Rattle.std.proofs.Common.{◌≡◌, ℕ, List, [], ◌++◌, length, Option, ap, refl, sym, subst, ◌∙◌, arith, rules, length-append}
use Rattle.grid_out.specs.Link.{TakesOff}
use Rattle.line_serve.specs.Parts.{GoesOn}
use Rattle.line_serve.proofs.SessionLaws.{goes_and_stops, goes_behind, goes_both, goes_nowhere, serves_by_stop, takes_both, takes_none}
use Rattle.line_serve.proofs.serving.serve_lines.Goals as goal

pub loop-taken-init : goal.loop-taken-init
loop-taken-init g c = (
  [],
  record {
    goes = rw c.clear.ensures (goes_nowhere g.A.Answerer.answers _ [] _);
    took = takes_none _;
    count = refl;
    within = omega arith;
    begun = rw c.clear.ensures (search rules);
    patient = rw c.clear.ensures (omega arith);
    reads = refl;
    sound = refl;
  },
)

pub returns-in-Err-serve_bytes-clause-served : goal.returns-in-Err-serve_bytes-clause-served
returns-in-Err-serve_bytes-clause-served g c =
    let at = c.loop-taken.invariant in
    let more : List ℕ = c.bytes-bytes.result.now in
    let begun : List ℕ = c.loop-taken.lines-inside.begun in
    let goes = subst (λ (w : Option (List ℕ)). GoesOn g.A.Answerer.answers c.args.answerer.now c.loop-taken.answerer at.0 begun (g.L.Link.written c.args.link.now) w) (sym c.in-Ok.ensures.written) at.1.goes in
    let read = subst (TakesOff (g.L.Link.left c.loop-taken.link) (g.L.Link.left c.read.new.link)) (sym c.bytes-bytes.ensures) c.in-Ok.ensures.taken in
    let took = takes_both (g.L.Link.left c.args.link.now) (g.L.Link.left c.loop-taken.link) (g.L.Link.left c.read.new.link) at.0 more at.1.took read in
    let long : length more ≡ c.in-Ok.count = ap length c.bytes-bytes.ensures ∙ sym c.in-Ok.ensures.count in
    serves_by_stop g.A.Answerer.answers _ _ _ (at.0 ++ more) _ _ _ _
    (goes_and_stops g.A.Answerer.answers _ c.loop-taken.answerer _ _ _ (begun ++ more) _ (g.L.Link.written c.read.new.link) _
    (goes_behind g.A.Answerer.answers _ _ at.0 _ more _ _ goes) c.in-Err-serve_bytes.ensures.stops)
    (subst (λ (left : Option (List ℕ)). TakesOff (g.L.Link.left c.args.link.now) left (at.0 ++ more)) (sym c.in-Err-serve_bytes.ensures.left) took)
    (omega (arith, length-append at.0 more, at.1.count, at.1.within, c.in-Ok.ensures.within))

pub loop-taken-preserved : goal.loop-taken-preserved
loop-taken-preserved g c =
    let at = c.loop-taken.invariant in
    let more : List ℕ = c.bytes-bytes.result.now in
    let begun : List ℕ = c.loop-taken.lines-inside.begun in
    let goes = subst (λ (w : Option (List ℕ)). GoesOn g.A.Answerer.answers c.args.answerer.now c.loop-taken.answerer at.0 begun (g.L.Link.written c.args.link.now) w) (sym c.in-Ok.ensures.written) at.1.goes in
    let read = subst (TakesOff (g.L.Link.left c.loop-taken.link) (g.L.Link.left c.read.new.link)) (sym c.bytes-bytes.ensures) c.in-Ok.ensures.taken in
    let took = takes_both (g.L.Link.left c.args.link.now) (g.L.Link.left c.loop-taken.link) (g.L.Link.left c.read.new.link) at.0 more at.1.took read in
    let long : length more ≡ c.in-Ok.count = ap length c.bytes-bytes.ensures ∙ sym c.in-Ok.ensures.count in (
      at.0 ++ more,
      record {
        goes =
            goes_both g.A.Answerer.answers _ c.loop-taken.answerer _ _ (begun ++ more) _ _ (g.L.Link.written c.read.new.link) _
            (goes_behind g.A.Answerer.answers _ _ at.0 _ more _ _ goes) c.in_default.ensures.goes_on;
        took = subst (λ (left : Option (List ℕ)). TakesOff (g.L.Link.left c.args.link.now) left (at.0 ++ more)) (sym c.in_default.ensures.left) took;
        count = length-append at.0 more ∙ omega (arith, at.1.count);
        within = omega (arith, at.1.within, c.in-Ok.ensures.within);
        begun = c.in_default.ensures.begun;
        patient = omega (arith, at.1.patient, c.in_default.ensures.patient, length-append begun more);
        reads = c.in_default.ensures.other ∙ c.in-Ok.ensures.cause.kept refl ∙ at.1.reads;
        sound = c.in_default.ensures.sound ∙ c.in-Ok.ensures.other ∙ at.1.sound;
      },
    )
