use Rattle.std.proofs.lemmas.Result.{IfOk-weaker}
use Rattle.cim_profile.proofs.Held.{holds_kept}
use Rattle.cim_profile.proofs.stated.values.Goals as goal

pub returns : goal.returns
returns g c = IfOk-weaker c.of.result _ _ (λ table kept. holds_kept g.V.Reading.read c.args.known c.args.statements.now _ table c.in_ok-rows.ensures kept) c.of.ensures
