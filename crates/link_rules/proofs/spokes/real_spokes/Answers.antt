use Rattle.std.proofs.Common.{rules, ◌∙◌, ap, map}
use Rattle.std.proofs.lemmas.Result.{IfOk-at_ok}
use Rattle.std.proofs.lemmas.Iterator.{items_from_collect, YieldsList-from_map, YieldsList-from_slice}
use Rattle.std.proofs.lemmas.Simd.{map-map}
use Rattle.cim_words.specs.declared.identifier.Id.{Id}
use Rattle.cim_model.specs.Network.{terminals_by_side}
use Rattle.cim_model.specs.Values.{as_id}
use Rattle.link_rules.specs.Parts.{real_spoke}
use Rattle.link_rules.proofs.spokes.real_spokes.Goals as goal

pub returns : goal.returns
returns c =
    let listed = IfOk-at_ok _ c.in_ok-spokes.was
    (items_from_collect _ c.collect.ensures.ran (YieldsList-from_map _ (λ (terminal : Id). real_spoke c.args.index.now c.args.owner.number terminal.number) (YieldsList-from_slice c.terminals_of.result.now cc) c.map.ensures.closure (λ x r q k. search rules))) in
    c.of.ensures ∙ listed ∙ ap (map (λ (terminal : Id). real_spoke c.args.index.now c.args.owner.number terminal.number)) c.terminals_of.ensures ∙ map-map (λ (terminal : Id). real_spoke c.args.index.now c.args.owner.number terminal.number) as_id (terminals_by_side c.args.index.now c.args.owner.number)
