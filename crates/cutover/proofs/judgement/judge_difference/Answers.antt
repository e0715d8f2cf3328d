use Rattle.std.proofs.Common.{rules, ap, Ok, Some, None, refl, ◌≡◌}
use Rattle.cutover.specs.Judgement.{IsMet}
use Rattle.cutover.proofs.judgement.judge_difference.Goals as goal

pub returns-in-None-clause-accepted : goal.returns-in-None-clause-accepted
returns-in-None-clause-accepted c =
    let met : IsMet c.args.set.now c.args.difference.now = search rules in
    let made = c.in_ok-model.ensures {u = tt} in
    let fits = (c.in_ok-why.ensures {u = tt}).fits (ap Ok c.in-None.is) in
    ((met, made.0), made.1, fits.0, fits.1)
