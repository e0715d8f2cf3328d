use Rattle.std.proofs.Common.{◌≡◌, ◌∙◌, Option, None, Some, inl, refl, sym, ap, subst}
use Rattle.desk.specs.Ends.{number_of}
use Rattle.room_words.specs.Differences.{Changes}
use Rattle.room_words.specs.declared.event.Event.TheVariants as event
use Rattle.room_words.specs.declared.fault.Fault.TheVariants as fault
use Rattle.room_words.specs.declared.reply.Reply.TheVariants as reply
use Rattle.session_host.proofs.Replying.{replied}
use Rattle.session_host.specs.Replies.{CutsOver, Submits, staged_after}
use Rattle.session_host.specs.Told.{Ever, TalkState, state_of}
use Rattle.session_host.specs.Views.{view_of}
use Rattle.session_host.proofs.talk.Talk.cut_over.Goals as goal

pub returns-in_default-clause-answers : goal.returns-in_default-clause-answers
returns-in_default-clause-answers g c =
    let none : c.args.self.now.staged ≡ None = ap (λ (t : TalkState). t.staged) (sym c.self.view_is) ∙ c.in_default.is in
    replied (reply.Fault fault.Staged) c.tell.result c.args.out.now.items c.tell.new.out.items
    (λ told. Ever c.args.console.now c.args.console.now (λ base history.
    CutsOver base history (number_of c.args.console.now) c.args.self.now.staged (state_of c.args.self.now c.args.console.now) told (state_of c.args.self.now c.args.console.now)))
    c.tell.ensures
    (λ base began history more. subst (λ (staged : Option Changes). CutsOver base history (number_of c.args.console.now) staged
    (state_of c.args.self.now c.args.console.now) (reply.Fault fault.Staged) (state_of c.args.self.now c.args.console.now)) (sym none) (inl refl, refl))

pub returns-clause-answers : goal.returns-clause-answers
returns-clause-answers g c =
    let some : c.args.self.now.staged ≡ Some c.in-Some.staged = ap (λ (t : TalkState). t.staged) (sym c.self.view_is) ∙ c.in-Some.is in
    replied c.submit-reply.result c.tell-2.result c.args.out.now.items c.tell-2.new.out.items
    (λ told. Ever c.args.console.now c.submit-reply.new.console (λ base history.
    CutsOver base history (number_of c.args.console.now) c.args.self.now.staged (state_of c.args.self.now c.args.console.now) told (state_of c.spend.new.self c.submit-reply.new.console)))
    c.tell-2.ensures
    (λ base began history more. subst (λ (staged : Option Changes). CutsOver base history (number_of c.args.console.now) staged
    (state_of c.args.self.now c.args.console.now) c.submit-reply.result (state_of c.spend.new.self c.submit-reply.new.console)) (sym some) (
      subst (λ (d : Changes). Submits base history (number_of c.args.console.now) (event.Cutover d) (view_of c.args.console.now) c.submit-reply.result (view_of c.submit-reply.new.console))
          c.in-Ok.ensures (c.submit-reply.ensures.submits base began history more),
      ap (λ (t : TalkState). t.staged) c.spend.ensures ∙ ap (λ (t : TalkState). staged_after c.submit-reply.result t.staged) c.self.view_is,
    ))
