use Rattle.std.proofs.Common.{◌==◌, List, Some, [], ◌∷◌, ◌++◌, cond, ap, subst, refl, ◌∙◌}
use Rattle.std.specs.Prelude.{IsSome, unwrap_or}
use Rattle.std.proofs.lemmas.Result.{on_ok_weaker}
use Rattle.cim_words.specs.declared.identifier.Id.{Id}
use Rattle.cim_records.specs.Found.{found, members}
use Rattle.cim_records.proofs.Updates.{members_set}
use Rattle.cim_records.proofs.groups.Groups.add.Goals as goal

pub returns-in-Some : goal.returns-in-Some
returns-in-Some g c = on_ok_weaker c.put.result (λ added. members_set c.args.self.now _ c.args.key.number c.put.new.list c.args.member
    (λ x. (let w = (c.get_mut.follows.holds c.put.new.list).3 (subst (λ o. IsSome o) c.in-Some.ensures.value refl) in w.0 (record { number = x }))
    ∙ ap (λ (lists : List (Id × List _)). cond (c.args.key.number == x) (Some c.put.new.list) (found lists x)) c.self.view_is)
    (added ∙ ap (λ (list : List _). list ++ c.args.member ∷ []) (ap (λ o. unwrap_or o []) c.in-Some.ensures.value ∙ ap (λ (lists : List (Id × List _)). members lists c.args.key.number) c.self.view_is))) c.put.ensures

pub returns : goal.returns
returns g c =
    members_set c.args.self.now _ c.args.key.number c.put-2.new.list c.args.member
    (λ x. c.in_ok-insert.ensures.updates.0 (record { number = x })
    ∙ ap (λ (map : _). cond (c.args.key.number == x) (Some c.put-2.new.list) (found map.entries x)) c.get_mut.follows.holds-at-none
    ∙ ap (λ (lists : List (Id × List _)). cond (c.args.key.number == x) (Some c.put-2.new.list) (found lists x)) c.self.view_is)
    (c.in_ok-put.ensures ∙ ap (λ (list : List _). list ++ c.args.member ∷ []) (c.empty-list.ensures ∙ ap (λ o. unwrap_or o []) c.in_default.ensures.value ∙ ap (λ (lists : List (Id × List _)). members lists c.args.key.number) c.self.view_is))
