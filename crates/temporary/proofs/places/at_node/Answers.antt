use Rattle.std.proofs.Common.{List, length, is_some, ap, ◌∙◌}
use Rattle.std.specs.List.{filter}
use Rattle.cim_model.specs.Network.{owner_of}
use Rattle.cim_model.specs.Stated.{terminals_at}
use Rattle.cim_words.specs.declared.identifier.Id.{Id}
use Rattle.temporary.proofs.Counts.{owners_counted}
use Rattle.temporary.proofs.places.at_node.Goals as goal

pub returns : goal.returns
returns c =
    let m = c.args.index.now in
    c.owned.ensures
    ∙ ap (λ (list : List Id). length (filter (λ (t : Id). is_some (owner_of m t.number)) list)) c.at_node.ensures.list
    ∙ owners_counted m (terminals_at m c.args.node.number)
