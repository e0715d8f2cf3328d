use Rattle.std.proofs.Common.{◌∙◌, Option, rules}
use Rattle.std.proofs.lemmas.Iterator.{items_from_collect, YieldsList-from_slice}
use Rattle.std.proofs.lemmas.Iterator.Consumers.{YieldsList-from_filter_map}
use Rattle.std.proofs.lemmas.Result.{IfOk-weaker}
use Rattle.cim_profile.specs.declared.table.Row.{Row}
use Rattle.cim_profile.proofs.RowValues.{filter_map_present}
use Rattle.cim_profile.proofs.facts.present.Goals as goal

pub returns : goal.returns
returns g c =
    IfOk-weaker c.collect.result _ _ (λ values are. are ∙ filter_map_present (λ (row : Row (Option g.row.V.Denot)). row.value) c.args.rows.now)
    (items_from_collect _ c.collect.ensures.ran (YieldsList-from_filter_map _ (λ (row : Row (Option g.row.V.Denot)). row.value) (YieldsList-from_slice c.args.rows.now cc) c.filter_map.ensures.closure (λ x r q k. search rules)))
