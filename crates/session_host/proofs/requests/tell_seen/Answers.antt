use Rattle.std.proofs.Common.{sym, subst, ℕ}
use Rattle.desk.specs.Ends.{number_of}
use Rattle.room_words.specs.declared.reply.Reply.TheVariants as reply
use Rattle.session_host.proofs.Replying.{replied}
use Rattle.session_host.specs.Looks.{OnlySees}
use Rattle.session_host.specs.Replies.{Looks}
use Rattle.session_host.specs.Told.{Ever}
use Rattle.session_host.specs.Views.{view_of}
use Rattle.session_host.proofs.requests.tell_seen.Goals as goal

pub returns-clause-answers : goal.returns-clause-answers
returns-clause-answers g c =
    replied (reply.Seen c.look-count.result) c.tell.result c.args.out.now.items c.tell.new.out.items
    (λ told. Ever c.args.console.now c.look-count.new.console (λ base history.
    Looks base history (number_of c.args.console.now) (view_of c.args.console.now) told (view_of c.look-count.new.console)))
    c.tell.ensures
    (λ base began history more.
    subst (λ (n : ℕ). OnlySees history (view_of c.args.console.now) (view_of c.look-count.new.console) n) (sym c.look-count.ensures.count)
    (c.look-count.ensures.sees base began history more))
