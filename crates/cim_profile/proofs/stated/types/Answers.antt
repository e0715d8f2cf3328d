use Rattle.std.proofs.lemmas.List.Filters.{dedup_is}
use Rattle.std.proofs.lemmas.Result.{IfOk-weaker}
use Rattle.cim_profile.proofs.TypeRows.{types_kept}
use Rattle.cim_profile.proofs.stated.types.Goals as goal

pub returns : goal.returns
returns c = IfOk-weaker c.of.result _ _ (λ table kept. types_kept _ c.equal_rows_are_one.ensures c.args.statements.now _ _ table c.in_ok-rows.ensures (dedup_is _ _ _ c.dedup.ensures.filtered) kept) c.of.ensures
