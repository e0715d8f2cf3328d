use Rattle.std.proofs.Common.{map, string_bytes}
use Rattle.history_writer.specs.Sending.{output}
use Rattle.room_plain.proofs.AnswerLemmas.{names_told, said_from, said_nothing, said_refusal}
use Rattle.room_plain.proofs.run.run_plain.Goals as goal

pub returns-in-Err-Refusal-clause-says : goal.returns-in-Err-Refusal-clause-says
returns-in-Err-Refusal-clause-says g c =
    let content = g.F.Shelf.content c.args.shelf.now in
    let words = map string_bytes c.args.words.now in
    let before = output (g.K.Sink.written c.args.out.now) (g.K.Sink.faults c.args.out.now) (g.K.Sink.handed c.args.out.now) in
    let between = output (g.K.Sink.written c.answer.new.out) (g.K.Sink.faults c.answer.new.out) (g.K.Sink.handed c.answer.new.out) in
    let after = output (g.K.Sink.written c.refuse.new.out) (g.K.Sink.faults c.refuse.new.out) (g.K.Sink.handed c.refuse.new.out) in
    said_from content words c.refuse.result before between after c.in-Err-Refusal.ensures.untouched
    (said_refusal content words between after c.in-Err-Refusal.refusal c.refuse.result (rw c.in-Err-Refusal.field-0-is at c.in-Err-Refusal.ensures.refusal) c.refuse.ensures.writes c.refuse.ensures.hands)

pub returns-in-Err-Refusal-clause-asks : goal.returns-in-Err-Refusal-clause-asks
returns-in-Err-Refusal-clause-asks g c =
    let between = output (g.K.Sink.written c.answer.new.out) (g.K.Sink.faults c.answer.new.out) (g.K.Sink.handed c.answer.new.out) in
    let after = output (g.K.Sink.written c.refuse.new.out) (g.K.Sink.faults c.refuse.new.out) (g.K.Sink.handed c.refuse.new.out) in
    let (names, are, asked) = rw c.in-Err-Refusal.field-0-is at c.in-Err-Refusal.ensures.asks in
    (names, names_told (map string_bytes c.args.words.now) names c.in-Err-Refusal.refusal c.refuse.result between after c.refuse.ensures.writes are, asked)

pub returns-in-Err-NoMemory-clause-says : goal.returns-in-Err-NoMemory-clause-says
returns-in-Err-NoMemory-clause-says g c =
    let before = output (g.K.Sink.written c.args.out.now) (g.K.Sink.faults c.args.out.now) (g.K.Sink.handed c.args.out.now) in
    let between = output (g.K.Sink.written c.answer.new.out) (g.K.Sink.faults c.answer.new.out) (g.K.Sink.handed c.answer.new.out) in
    said_nothing (g.F.Shelf.content c.args.shelf.now) (map string_bytes c.args.words.now) before between c.in-Err-NoMemory.ensures.untouched

pub returns-in-Err-NoMemory-clause-asks : goal.returns-in-Err-NoMemory-clause-asks
returns-in-Err-NoMemory-clause-asks g c = rw c.in-Err-NoMemory.field-0-is at c.in-Err-NoMemory.ensures.asks
