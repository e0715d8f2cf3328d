use Rattle.std.proofs.Common.{◌≡◌, ◌⊎◌, ◌∙◌, ◌++◌, List, ℕ, length, Err, inr, ap, refl, subst}
use denote.Param.Send.{sendable}
use Rattle.desk.specs.Ends.{number_of}
use Rattle.room_words.specs.declared.reply.Reply.TheVariants as reply
use Rattle.session_host.proofs.Replying.{replied_so}
use Rattle.session_host.proofs.Tracing.{shown_is, traces, traces_none}
use Rattle.session_host.specs.Replies.{Traces}
use Rattle.session_host.specs.Told.{Ever, Replied}
use Rattle.session_host.specs.Views.{view_of}
use Rattle.versions.proofs.BetweenThreads.{version_sends, version_syncs}
use Rattle.session_host.proofs.requests.trace.Goals as goal

pub shown-version-requires-send-V : goal.shown-version-requires-send-V
shown-version-requires-send-V g c κs within = search (version_sends, sendable)

pub shown-version-requires-sync-V : goal.shown-version-requires-sync-V
shown-version-requires-sync-V g c κs within = search (version_syncs, sendable)

pub returns-in-Ok-clause-answers : goal.returns-in-Ok-clause-answers
returns-in-Ok-clause-answers g c =
    let traced = c.in-Ok.ensures.ok in (
      reply.Trace (length c.shown-version.result.now.log) traced.2.rows,
      refl,
      traced.1 ∙ ap (λ (text : List ℕ). c.args.out.now.items ++ text) traced.2.is_text,
      λ base began history more. traces c.args.console.now c.look.new.console base history (number_of c.args.console.now) c.args.start.number c.args.phases more
          (c.look.ensures.sees base began history more) c.shown-version.result.now traced.0
          (shown_is c.look.new.console.reader.shown _ _ (c.look.ensures.shown base began) c.shown-version.ensures.shown) traced.2,
    )

pub returns-in-Err-NoSuch-clause-answers : goal.returns-in-Err-NoSuch-clause-answers
returns-in-Err-NoSuch-clause-answers g c =
    let version = c.shown-version.result.now in
    replied_so c.tell_no_such.result c.args.out.now.items c.tell_no_such.new.out.items
    (λ told. (told ≡ reply.NoSuch (length version.log)) ⊎ (told ≡ reply.Memory))
    (λ told. Ever c.args.console.now c.look.new.console (λ base history.
    Traces base history (number_of c.args.console.now) c.args.start.number c.args.phases (view_of c.args.console.now) told (view_of c.look.new.console)))
    (λ told either base began history more. traces_none c.args.console.now c.look.new.console base history (number_of c.args.console.now) c.args.start.number
    c.args.phases more (c.look.ensures.sees base began history more) version
    (shown_is c.look.new.console.reader.shown _ _ (c.look.ensures.shown base began) c.shown-version.ensures.shown) (c.in-Err-NoSuch.ensures.no_such (ap Err c.in-Err-NoSuch.field-0-is)) told either)
    (subst (λ (old : List ℕ). Replied c.tell_no_such.result old c.tell_no_such.new.out.items (λ told. (told ≡ reply.NoSuch (length version.log)) ⊎ (told ≡ reply.Memory)))
    c.in-Err-NoSuch.ensures.kept
    (subst (λ (n : ℕ). Replied c.tell_no_such.result c.trace_text.new.into.items c.tell_no_such.new.out.items (λ told. (told ≡ reply.NoSuch n) ⊎ (told ≡ reply.Memory)))
    c.number.ensures c.tell_no_such.ensures))

pub returns-in-Err-NoMemory-clause-answers : goal.returns-in-Err-NoMemory-clause-answers
returns-in-Err-NoMemory-clause-answers g c =
    (c.in-Err-NoMemory.ensures.kept, λ base began history more. inr (length c.look.new.console.reader.seen, c.look.ensures.sees base began history more))
