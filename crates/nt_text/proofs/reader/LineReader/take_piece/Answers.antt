use Rattle.std.proofs.lemmas.Result.{IfErr-weaker, err_from_is_err_and}
use Rattle.nt_text.proofs.ReaderLemmas.{taking_begins, taking_goes_on, taking_fails, taking_stops}
use Rattle.nt_text.proofs.reader.LineReader.take_piece.Goals as goal

pub loop-line-init : goal.loop-line-init
loop-line-init c = taking_begins c.args.self.now c.args.piece.now c.args.into.now c.requires

pub returns-in_err-take_line-clause-err : goal.returns-in_err-take_line-clause-err
returns-in_err-take_line-clause-err c =
    let p = err_from_is_err_and c.from_residual.result c.from_residual.ensures.1 in
    rw (p.1, p.2)
    (taking_fails c.args.self.now c.loop-line.self c.args.piece.now c.loop-line.left.now c.in-Some.line.now c.in-Some.end c.in-Some.after.now
    c.args.into.now c.loop-line.into c.take_line.new.into c.in_err-take_line.field-0.0 c.loop-line.invariant c.in-Some.ensures.found
    c.in_err-take_line.ensures.err)

pub loop-line-preserved : goal.loop-line-preserved
loop-line-preserved c =
    taking_goes_on c.args.self.now c.loop-line.self c.take_line.new.self c.args.piece.now c.loop-line.left.now c.in-Some.line.now c.in-Some.end
    c.in-Some.after.now c.args.into.now c.loop-line.into c.take_line.new.into c.loop-line.invariant c.in-Some.ensures.found c.in_ok-take_line.ensures.ok
    c.in_ok-take_line.ensures.fed c.in_ok-take_line.ensures.counts

pub returns-clause-err : goal.returns-clause-err
returns-clause-err c =
    IfErr-weaker c.keep_front.result _ _
    (λ f. taking_stops c.args.self.now c.loop-line.self c.args.piece.now c.loop-line.left.now c.args.into.now c.loop-line.into f c.loop-line.invariant)
    c.keep_front.ensures.err
