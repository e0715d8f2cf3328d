use Rattle.std.proofs.Common.{◌≡◌, ◌++◌, [], List, subst, ap, ◌∙◌}
use Rattle.std.proofs.lemmas.Result.{IfErr-weaker, on_ok_weaker}
use Rattle.cim_words.specs.declared.statement.Statement.{Statement}
use Rattle.desk.specs.Legal.{IsLegal}
use Rattle.history_writer.specs.Sending.{OutputState, output}
use Rattle.history_writer.specs.declared.fault.OutFault.TheVariants as fault
use Rattle.script.specs.Answers.{AreAnswered}
use Rattle.script.specs.Rehearsal.{RehearsalState, at_start}
use Rattle.script.specs.Turns.{turns_of}
use Rattle.versions.specs.History.{Judges}
use Rattle.history_writer.proofs.KeptBack.{stopped}
use Rattle.history_writer.proofs.Sending.{sends_none}
use Rattle.script.proofs.Origins.{turns_keep}
use Rattle.script.proofs.Stopping.{Stops, front_of_history, front_of_none, front_of_turns, played}
use Rattle.script.proofs.playing.play_counted.Goals as goal

-- a history that is legal from where it began is legal from the base
legal_from : (base : List Statement) (inside now : RehearsalState) → inside ≡ now → now.room.origin ≡ base → IsLegal (Judges inside.room.origin) inside.room.log → IsLegal (Judges base) now.room.log
legal_from base inside now same from legal =
    subst (λ (b : List Statement). IsLegal (Judges b) now.room.log) from (subst (λ (r : RehearsalState). IsLegal (Judges r.room.origin) r.room.log) same legal)

pub returns-in_err-rehearsal-clause-fault : goal.returns-in_err-rehearsal-clause-fault
returns-in_err-rehearsal-clause-fault g c =
    stopped _ c.from_residual.result fault.NoMemory c.from_residual.ensures.1 ([], front_of_none c.args.base c.args.script.now, sends_none _)

pub returns-in_err-kept-clause-fault : goal.returns-in_err-kept-clause-fault
returns-in_err-kept-clause-fault g c =
    let bad = c.in_err-kept.field-0.0 in
    let before : OutputState = output (g.K.Sink.written c.args.out.now) (g.K.Sink.faults c.args.out.now) (g.K.Sink.handed c.args.out.now) in
    let after : OutputState = output (g.K.Sink.written c.answer_all.new.out) (g.K.Sink.faults c.answer_all.new.out) (g.K.Sink.handed c.answer_all.new.out) in
    stopped _ c.from_residual-in_err-kept.result bad c.from_residual-in_err-kept.ensures.1
    (front_of_turns c.args.base c.args.script.now bad before after (subst (λ (start : RehearsalState). Stops start c.args.script.now bad before after) c.in_ok-rehearsal.ensures c.in_err-kept.ensures.fault))

pub returns-clause-ok : goal.returns-clause-ok
returns-clause-ok g c =
    let base = c.args.base in
    let now = c.answer_all.new.self in
    let told = c.in_ok-kept.ensures.ok in
    let text = told.0 ++ c.in_ok-kept.kept.items in
    let turns = turns_of c.args.script.now in
    let answered = subst (λ (start : RehearsalState). AreAnswered start turns text now) c.in_ok-rehearsal.ensures told.1 in
    let legal = legal_from base _ now c.rehearsal.view_is (turns_keep c.steps_keep_origins.ensures turns (at_start base) now text answered) c.history.ensures.legal in
    let shown : c.current.result.now.log ≡ now.room.log = c.current.ensures.log ∙ ap (λ (r : RehearsalState). r.room.log) c.rehearsal.view_is in
    on_ok_weaker c.write_history.result (λ sends. played base c.args.script.now now _ _ _ told.0 c.in_ok-kept.kept.items answered told.2 _ shown legal sends) c.write_history.ensures.ok

pub returns-clause-fault : goal.returns-clause-fault
returns-clause-fault g c =
    let base = c.args.base in
    let now = c.answer_all.new.self in
    let told = c.in_ok-kept.ensures.ok in
    let answered = subst (λ (start : RehearsalState). AreAnswered start (turns_of c.args.script.now) (told.0 ++ c.in_ok-kept.kept.items) now) c.in_ok-rehearsal.ensures told.1 in
    let shown : c.current.result.now.log ≡ now.room.log = c.current.ensures.log ∙ ap (λ (r : RehearsalState). r.room.log) c.rehearsal.view_is in
    IfErr-weaker c.write_history.result _ _ (λ bad stops. front_of_history base c.args.script.now now _ _ _ told.0 c.in_ok-kept.kept.items answered told.2 _ shown bad stops) c.write_history.ensures.fault
