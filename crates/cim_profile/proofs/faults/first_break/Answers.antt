use Rattle.std.proofs.lemmas.Result.{IfOk-weaker}
use Rattle.cim_profile.proofs.Stages.{repeats_first, rest_first}
use Rattle.cim_profile.proofs.faults.first_break.Goals as goal

pub returns-in-Some : goal.returns-in-Some
returns-in-Some c = repeats_first _ c.args.set.now c.in-Some.found c.in_ok-facts.ensures (rw c.in-Some.is at c.in_ok-found.ensures)

pub returns : goal.returns
returns c =
    IfOk-weaker c.least_of-2.result _ _ (λ least rest. rest_first _ c.args.set.now least c.in_ok-facts.ensures (rw c.in_default.is at c.in_ok-found.ensures) rest) c.least_of-2.ensures
