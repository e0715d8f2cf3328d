use Rattle.std.proofs.Common.{[], Some, ap, inl, refl}
use Rattle.room_words.specs.declared.reply.Reply.TheVariants as reply
use Rattle.session_host.proofs.Replying.{replied, replied_so, request_so}
use Rattle.session_host.proofs.Talked.{staged_by}
use Rattle.session_host.specs.Told.{TalkState}
use Rattle.session_host.specs.Views.{view_of}
use Rattle.session_host.proofs.talk.Talk.answer.Goals as goal

pub returns-in-Act-clause-answers : goal.returns-in-Act-clause-answers
returns-in-Act-clause-answers g c =
    replied_so c.act.result c.args.out.now.items c.act.new.out.items _ _
    (λ told f base began history more. request_so base history _ _ _ _ told _ c.in-Act.is (f base began history more, ap (λ (t : TalkState). t.staged) c.act.ensures.kept))
    c.act.ensures.answers

pub returns-in-Look-clause-answers : goal.returns-in-Look-clause-answers
returns-in-Look-clause-answers g c =
    replied_so c.tell_seen.result c.args.out.now.items c.tell_seen.new.out.items _ _
    (λ told f base began history more. request_so base history _ _ _ _ told _ c.in-Look.is (f base began history more, refl)) c.tell_seen.ensures.answers

pub returns-in-Trace-clause-answers : goal.returns-in-Trace-clause-answers
returns-in-Trace-clause-answers g c =
    replied_so c.trace.result c.args.out.now.items c.trace.new.out.items _ _
    (λ told f base began history more. request_so base history _ _ _ _ told _ c.in-Trace.is (f base began history more, refl)) c.trace.ensures.answers

pub returns-in-Stage-clause-answers : goal.returns-in-Stage-clause-answers
returns-in-Stage-clause-answers g c =
    replied_so c.stage_nothing.result c.args.out.now.items c.stage_nothing.new.out.items _ _
    (λ told f base began history more. request_so base history _ _ _ _ told _ c.in-Stage.is (staged_by (Some []) [] (λ d is. is) (λ bad is. is) _ told _ f))
    (c.stage_nothing.ensures.staged (view_of c.args.console.now))

pub returns-in-Bye-clause-answers : goal.returns-in-Bye-clause-answers
returns-in-Bye-clause-answers g c =
    replied reply.Bye c.tell.result c.args.out.now.items c.tell.new.out.items _ c.tell.ensures
    (λ base began history more. request_so base history _ _ _ _ reply.Bye _ c.in-Bye.is (inl refl, refl))
