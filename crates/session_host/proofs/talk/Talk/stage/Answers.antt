use Rattle.std.proofs.Common.{◌∙◌, List, ℕ, length, Option, Some, sym, ap, subst}
use Rattle.room_words.specs.Differences.{Changes}
use Rattle.room_words.specs.declared.reply.Reply.TheVariants as reply
use Rattle.session_host.proofs.Replying.{replied, staging}
use Rattle.session_host.specs.Told.{IsTold, StagesDraft}
use Rattle.session_host.proofs.talk.Talk.stage.Goals as goal

pub returns-in-Ok-clause-staged : goal.returns-in-Ok-clause-staged
returns-in-Ok-clause-staged g c view =
    let told = reply.Staged c.len.result c.len-in-Ok.result c.len-in-Ok-2.result in
    replied told c.tell.result c.args.out.now.items c.tell.new.out.items
    (λ told. StagesDraft c.args.draft (record { view = view; staged = c.args.self.now.staged }) told (record { view = view; staged = Some c.in-Ok-of.shared }))
    (subst (λ (old : List ℕ). IsTold told c.tell.result old c.tell.new.out.items) c.reserve.ensures.items c.tell.ensures)
    (subst (λ (draft : Option (Option (List ℕ))). StagesDraft draft (record { view = view; staged = c.args.self.now.staged }) told (record { view = view; staged = Some c.in-Ok-of.shared }))
    (sym c.in-Some.ensures.some) (
      c.in-Ok.difference,
      c.in-Ok.ensures.ok,
      c.len.ensures ∙ ap length c.pre.ensures,
      c.len-in-Ok.ensures ∙ ap length c.rev.ensures,
      c.len-in-Ok-2.ensures ∙ ap length c.fwd.ensures,
      ap (λ (d : Changes). staging view d) c.in-Ok-of.ensures,
    ))
