use Rattle.std.proofs.Common.{rules, ◌∙◌, ap, map}
use Rattle.std.proofs.lemmas.Iterator.{items_from_collect, YieldsList-from_map, YieldsList-from_slice}
use Rattle.std.proofs.lemmas.Iterator.Consumers.{YieldsList-from_filter}
use Rattle.std.proofs.lemmas.Result.{IfOk-weaker}
use Rattle.cim_words.specs.declared.identifier.Id.{Id}
use Rattle.cim_model.specs.Model.{is_of}
use Rattle.cim_profile.specs.Facts.{kind_test}
use Rattle.cim_profile.specs.declared.table.Row.{Row}
use Rattle.cim_profile.proofs.RowValues.{names_passing}
use Rattle.cim_profile.proofs.facts.Facts.those_of.Goals as goal

pub returns : goal.returns
returns c k holds =
    let p = is_of c.args.self.now.statements.now (kind_test c.args.kind) in
    IfOk-weaker c.collect.result _ _ (λ ids are. ap (map _) are ∙ names_passing p c.at.result.now _ (rw c.at.ensures (holds c.args.named.number)))
    (items_from_collect _ c.collect.ensures.ran (YieldsList-from_filter _ (λ (id : Id). p id.number) (YieldsList-from_map _ (λ (row : Row Id). row.value) (YieldsList-from_slice c.at.result.now cc) c.map.ensures.closure (λ x r q k. search rules)) c.filter.ensures.closure (λ x r q k. search rules)))
