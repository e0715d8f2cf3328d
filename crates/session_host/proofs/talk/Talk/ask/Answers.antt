use Rattle.std.proofs.Common.{List, ℕ, [], inl, inr, refl, subst}
use Rattle.desk.specs.Ends.{number_of}
use Rattle.room_words.specs.declared.reply.Reply.TheVariants as reply
use Rattle.session_host.proofs.Replying.{replied}
use Rattle.session_host.specs.Replies.{AnswersLine}
use Rattle.session_host.specs.Told.{Ever, IsTold, state_of}
use Rattle.session_host.proofs.talk.Talk.ask.Goals as goal

pub returns-in-Err-clause-answers : goal.returns-in-Err-clause-answers
returns-in-Err-clause-answers g c =
    let told = reply.Fault c.in-Err.fault in
    replied told c.tell.result c.args.out.now.items c.tell.new.out.items
    (λ told. Ever c.args.console.now c.args.console.now (λ base history.
    AnswersLine base history (number_of c.args.console.now) c.args.line.now [] (state_of c.args.self.now c.args.console.now) told (state_of c.args.self.now c.args.console.now)))
    (subst (λ (old : List ℕ). IsTold told c.tell.result old c.tell.new.out.items) c.reserve.ensures.items c.tell.ensures)
    (λ base began history more. inr (c.in-Err.fault, c.in-Err.ensures.fault, (inl refl, refl)))
