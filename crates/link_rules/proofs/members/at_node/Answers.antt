use Rattle.std.proofs.Common.{◌≡◌, IfOk, List, ◌∙◌, ap, subst}
use Rattle.std.specs.List.{filter_map}
use Rattle.cim_model.specs.Live.{owned}
use Rattle.cim_model.specs.Stated.{terminals_at}
use Rattle.cim_words.specs.declared.identifier.Id.{Id}
use Rattle.link_rules.proofs.MemberLists.{of_ids}
use Rattle.link_rules.proofs.members.at_node.Goals as goal
use Rattle.room_words.specs.declared.term.Term.{Term}

pub returns : goal.returns
returns c =
    let m = c.args.index.now in
    subst (λ (list : List Term). IfOk c.owned.result (λ terms. terms.items ≡ list))
    (ap (filter_map (λ (id : Id). owned m id.number)) c.at_node.ensures.list ∙ of_ids (owned m) (terminals_at m c.args.node.number)) c.owned.ensures
