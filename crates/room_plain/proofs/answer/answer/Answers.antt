use Rattle.std.proofs.Common.{◌≡◌, ◌∷◌, inr, inl, refl, sym, subst, map, string_bytes, Result, Err, IfErr}
use Rattle.history_writer.specs.Sending.{output}
use Rattle.room_base.specs.Refusal.{IfRefusal}
use Rattle.room_base.specs.declared.refusal.Failure.{Failure}
use Rattle.room_base.specs.declared.refusal.Refusal.{Refusal}
use Rattle.room_base.specs.declared.status.Status.{Status}
use Rattle.room_plain.specs.Contents.{further_contents}
use Rattle.room_plain.specs.Command.{further_names}
use Rattle.room_plain.specs.Ending.{ending}
use Rattle.room_plain.specs.Run.{AreNames, Asks, Explains}
use Rattle.room_plain.proofs.AnswerLemmas.{handed_on, names_stopped, said, unread, untold}
use Rattle.room_plain.proofs.answer.answer.Goals as goal

pub returns-clause-said : goal.returns-clause-said
returns-clause-said g c =
    let asks : Asks (map string_bytes c.args.words.now) = record {
      name = c.in-Some.asked.base.now;
      more = further_names c.in-Some.asked;
      asked = c.in-Some.asked.task;
      command = c.in-Some.ensures.found;
    } in
    let before = output (g.K.Sink.written c.args.out.now) (g.K.Sink.faults c.args.out.now) (g.K.Sink.handed c.args.out.now) in
    let after = output (g.K.Sink.written c.perform.new.out) (g.K.Sink.faults c.perform.new.out) (g.K.Sink.handed c.perform.new.out) in
    let contents = further_contents c.in_ok-contents.contents in
    said c.perform.result (g.F.Shelf.content c.args.shelf.now) (map string_bytes c.args.words.now) asks c.in_ok-contents.contents.base.items contents before after
    (record { base = c.in_ok-contents.ensures.base; further = c.in_ok-contents.ensures.further }) c.perform.ensures.told

pub returns-clause-refusal : goal.returns-clause-refusal
returns-clause-refusal g c =
    let asks : Asks (map string_bytes c.args.words.now) = record {
      name = c.in-Some.asked.base.now;
      more = further_names c.in-Some.asked;
      asked = c.in-Some.asked.task;
      command = c.in-Some.ensures.found;
    } in
    let contents = further_contents c.in_ok-contents.contents in
    untold c.perform.result (g.F.Shelf.content c.args.shelf.now) (map string_bytes c.args.words.now) asks c.in_ok-contents.contents.base.items contents
    (record { base = c.in_ok-contents.ensures.base; further = c.in_ok-contents.ensures.further }) c.perform.ensures.untold

-- all files were asked for
pub returns-clause-asks : goal.returns-clause-asks
returns-clause-asks g c =
    let asks : Asks (map string_bytes c.args.words.now) = record {
      name = c.in-Some.asked.base.now;
      more = further_names c.in-Some.asked;
      asked = c.in-Some.asked.task;
      command = c.in-Some.ensures.found;
    } in
    (asks.name ∷ asks.more, inr (asks, inl refl), c.in_ok-contents.ensures.asks)

-- files were not read
pub returns-in_err-contents-clause-refusal : goal.returns-in_err-contents-clause-refusal
returns-in_err-contents-clause-refusal g c =
    let asks : Asks (map string_bytes c.args.words.now) = record {
      name = c.in-Some.asked.base.now;
      more = further_names c.in-Some.asked;
      asked = c.in-Some.asked.task;
      command = c.in-Some.ensures.found;
    } in
    let f : Failure Refusal = c.in_err-contents.field-0.0 in
    let same : c.from_residual.result ≡ Err f = handed_on c.from_residual.result f c.from_residual.ensures.1 in
    let P : Result Status (Failure Refusal) → Type 0 = λ r. IfErr r (λ e. IfRefusal e (Explains (g.F.Shelf.content c.args.shelf.now) (map string_bytes c.args.words.now))) in
    subst P (sym same) (unread f (g.F.Shelf.content c.args.shelf.now) (map string_bytes c.args.words.now) asks c.in_err-contents.ensures.refused)

pub returns-in_err-contents-clause-asks : goal.returns-in_err-contents-clause-asks
returns-in_err-contents-clause-asks g c =
    let asks : Asks (map string_bytes c.args.words.now) = record {
      name = c.in-Some.asked.base.now;
      more = further_names c.in-Some.asked;
      asked = c.in-Some.asked.task;
      command = c.in-Some.ensures.found;
    } in
    let f : Failure Refusal = c.in_err-contents.field-0.0 in
    let same : c.from_residual.result ≡ Err f = handed_on c.from_residual.result f c.from_residual.ensures.1 in
    let (names, are, asked) = names_stopped f (g.F.Shelf.content c.args.shelf.now) (map string_bytes c.args.words.now) asks (g.F.Shelf.asked c.args.shelf.now) (g.F.Shelf.asked c.read_files.new.shelf)
    c.in_err-contents.ensures.refused c.in_err-contents.ensures.asks_err in
    let P : Result Status (Failure Refusal) → Type 0 = λ r. AreNames (map string_bytes c.args.words.now) (ending r) names in
    (names, subst P (sym same) are, asked)
