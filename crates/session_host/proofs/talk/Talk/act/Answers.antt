use Rattle.desk.specs.Ends.{number_of}
use Rattle.room_words.specs.declared.event.Event.TheVariants as event
use Rattle.session_host.proofs.Replying.{replied}
use Rattle.session_host.specs.Replies.{Submits}
use Rattle.session_host.specs.Told.{Ever}
use Rattle.session_host.specs.Views.{view_of}
use Rattle.session_host.proofs.talk.Talk.act.Goals as goal

pub returns-clause-answers : goal.returns-clause-answers
returns-clause-answers g c =
    replied c.submit-reply.result c.tell.result c.args.out.now.items c.tell.new.out.items
    (λ told. Ever c.args.console.now c.submit-reply.new.console (λ base history.
    Submits base history (number_of c.args.console.now) (event.Act c.args.act) (view_of c.args.console.now) told (view_of c.submit-reply.new.console)))
    c.tell.ensures c.submit-reply.ensures.submits
