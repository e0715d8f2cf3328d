use Rattle.std.proofs.Common.{◌∙◌, take, arith}
use Rattle.std.proofs.lemmas.List.{take_all, length-take}
use Rattle.std.proofs.lemmas.List.Sums.{length-filter, count_by-le-length}
use Rattle.statement_set.proofs.Members.{copied, difference, passed_over, stays}
use Rattle.statement_set.proofs.copies.copies_apart.Goals as goal

pub loop-statement-preserved-then-is_among : goal.loop-statement-preserved-then-is_among
loop-statement-preserved-then-is_among c =
    c.loop-statement.invariant ∙ passed_over c.args.gone.now c.args.statements.now c.loop-statement.statement-index c.statement-item.result c.loop-statement-test.true c.statement-item.is (c.is_among.ensures.0 c.if-is_among.true)

pub loop-statement-preserved : goal.loop-statement-preserved
loop-statement-preserved c =
    rw (c.in_ok-push.ensures.items, c.in_ok-copy.ensures, c.loop-statement.invariant)
    (copied c.args.gone.now c.args.statements.now c.loop-statement.statement-index c.statement-item.result c.loop-statement-test.true c.statement-item.is (λ inside. let h = c.is_among.ensures.1 inside in cc))

pub returns-clause-few : goal.returns-clause-few
returns-clause-few c =
    let seen = take c.loop-statement.statement-index c.args.statements.now in
    rw c.loop-statement.invariant (omega (arith, length-filter (stays c.args.gone.now) seen, count_by-le-length (stays c.args.gone.now) seen, length-take c.loop-statement.statement-index c.args.statements.now))

pub returns-clause-apart : goal.returns-clause-apart
returns-clause-apart c = rw (c.loop-statement.invariant, take_all _ c.args.statements.now c.loop-statement-test.false) (difference c.args.gone.now c.args.statements.now c.requires.ordered)
