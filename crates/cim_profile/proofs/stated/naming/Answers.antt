use Rattle.std.proofs.Common.{rules}
use Rattle.std.proofs.lemmas.Iterator.{items_from_collect}
use Rattle.std.proofs.lemmas.Iterator.Consumers.{YieldsList-from_filter_map}
use Rattle.std.proofs.lemmas.Result.{IfOk-at_ok, IfOk-weaker}
use Rattle.statement_set.proofs.Steps.{YieldsList-from_about}
use Rattle.cim_profile.specs.Facts.{naming_row}
use Rattle.cim_profile.proofs.Held.{names_kept}
use Rattle.cim_profile.proofs.stated.naming.Goals as goal

pub returns : goal.returns
returns c =
    let are = IfOk-at_ok _ c.in_ok-rows.was (items_from_collect _ c.collect.ensures.ran (YieldsList-from_filter_map _ (naming_row c.args.known) (YieldsList-from_about c.args.statements.now cc) c.filter_map.ensures.closure (λ x r q k. search rules))) in
    IfOk-weaker c.of.result _ _ (λ table kept. names_kept c.args.known c.args.statements.now _ table are kept) c.of.ensures
