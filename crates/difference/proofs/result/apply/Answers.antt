use Rattle.std.proofs.Common.{List, subst}
use Rattle.std.proofs.lemmas.Result.{err_from_is_err_and}
use Rattle.cim_words.specs.declared.statement.Statement.{Statement}
use Rattle.statement_set.specs.Gives.{Gives}
use Rattle.statement_set.specs.Set.{IsInEither, IsInFirstAlone, IsSetOf}
use Rattle.difference.specs.Result.{IsInResult}
use Rattle.difference.proofs.Results.{given_for_memory, given_in_turn}
use Rattle.difference.proofs.result.apply.Goals as goal

pub returns-in_err-without : goal.returns-in_err-without
returns-in_err-without c =
    let p = err_from_is_err_and c.from_residual.result c.from_residual.ensures.1 in
    rw (p.1, p.2) (given_for_memory (IsInResult c.args.set.now c.args.difference.now) c.in_err-without.field-0.0 c.in_err-without.ensures.small)

pub returns : goal.returns
returns c =
    let kept = subst (λ (gone : List Statement). IsSetOf (IsInFirstAlone c.args.set.now gone) c.in_ok-without.field-0) c.rev.ensures c.in_ok-without.ensures.set.0 in
    given_in_turn c.args.set.now c.args.difference.now c.in_ok-without.field-0 kept c.with-2.result
    (subst (λ (new : List Statement). Gives (IsInEither c.in_ok-without.field-0 new) c.with-2.result) c.fwd.ensures c.with-2.ensures)
