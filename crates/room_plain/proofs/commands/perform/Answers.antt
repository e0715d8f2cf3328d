use Rattle.history_writer.specs.Sending.{output}
use Rattle.room_plain.specs.Contents.{further_contents}
use Rattle.room_plain.specs.declared.task.Task.TheVariants as task
use Rattle.room_plain.proofs.AnswerLemmas.{over_base}
use Rattle.room_plain.proofs.commands.perform.Goals as goal

pub returns-in_ok-tell_check-in-Check-clause-told : goal.returns-in_ok-tell_check-in-Check-clause-told
returns-in_ok-tell_check-in-Check-clause-told g c =
    let before = output (g.K.Sink.written c.args.out.now) (g.K.Sink.faults c.args.out.now) (g.K.Sink.handed c.args.out.now) in
    let after = output (g.K.Sink.written c.tell_check.new.out) (g.K.Sink.faults c.tell_check.new.out) (g.K.Sink.handed c.tell_check.new.out) in
    let contents = further_contents c.args.contents in
    over_base c.args.contents.base.items c.args.task task.Check contents c.in_ok-set.set c.in_ok-tell_check-in-Check.field-0 before after c.in-Check.is c.in_ok-set.ensures.base
    (c.in_ok-tell_check-in-Check.ensures.told contents)

pub returns-in_ok-tell_trace-in-Trace-clause-told : goal.returns-in_ok-tell_trace-in-Trace-clause-told
returns-in_ok-tell_trace-in-Trace-clause-told g c =
    let before = output (g.K.Sink.written c.args.out.now) (g.K.Sink.faults c.args.out.now) (g.K.Sink.handed c.args.out.now) in
    let after = output (g.K.Sink.written c.tell_trace.new.out) (g.K.Sink.faults c.tell_trace.new.out) (g.K.Sink.handed c.tell_trace.new.out) in
    let contents = further_contents c.args.contents in
    over_base c.args.contents.base.items c.args.task (task.Trace c.in-Trace.source c.in-Trace.phases) contents c.in_ok-set.set c.in_ok-tell_trace-in-Trace.field-0 before after c.in-Trace.is
    c.in_ok-set.ensures.base (c.in_ok-tell_trace-in-Trace.ensures.told contents)
