use Rattle.std.proofs.Common.{[], ◌∙◌}
use Rattle.indexmap.proofs.CallerLemmas.{insert_entry-new}
use Rattle.cim_records.proofs.Reading.{reading_begins, entry_is_new, reading_steps, reading_ends}
use Rattle.cim_records.proofs.subjects.Subjects.read.Goals as goal

pub loop-id-init : goal.loop-id-init
loop-id-init c = ([], reading_begins c.args.statements.now c.into_iter-id-iterator.result _ (cc) c.subjects-id-items.ensures.ordered c.new-entries.ensures.empty)

pub loop-id-preserved : goal.loop-id-preserved
loop-id-preserved c =
    let reading = c.loop-id.invariant.1 in
    reading_steps _ _ c.loop-id.id-iterator c.next.new.self c.in-Some.about c.in-Some.id c.next.result _ _ c.read_subject.result reading c.in-Some.is c.next.ensures.steps c.read_subject.ensures
    (c.in_ok-insert.ensures.entries ∙ insert_entry-new _ c.loop-id.entries _ _ (entry_is_new _ _ c.loop-id.id-iterator c.next.new.self c.in-Some.about c.in-Some.id c.next.result _ reading c.in-Some.is c.next.ensures.steps))

pub returns : goal.returns
returns c = reading_ends _ _ c.loop-id.id-iterator c.next.new.self c.next.result _ c.loop-id.invariant.1 c.in-None.is c.next.ensures.steps
