use Rattle.std.proofs.Common.{◌∙◌, ap}
use Rattle.std.specs.Map.Iter.{deref_pair}
use Rattle.std.proofs.lemmas.Map.Iter.{rest_all, rest_more}
use Rattle.cim_records.specs.Found.{members}
use Rattle.cim_records.proofs.Taken.{taken_all, entry_mark, marked, marked_more, marks_told, stands_on}
use Rattle.cim_records.proofs.tables.marks.Goals as goal

pub returns : goal.returns
returns c = λ x.
    taken_all entry_mark (stands_on x) c.loop-id.id-iterator (members c.loop-id.marks x) _ (rest_all deref_pair c.loop-id.id-iterator c.next.new.self c.next.result c.in-None.is c.next.ensures.steps) (c.loop-id.invariant x)
    ∙ ap (marked x) c.requires.subjects ∙ marks_told _ c.requires.faultless x

pub loop-id-preserved : goal.loop-id-preserved
loop-id-preserved c = λ x.
    marked_more x (c.in-Some.id.now, c.in-Some.subject.now) c.next.new.self c.loop-id.id-iterator (members c.loop-id.marks x) _ _ c.in-Some-segment.segment c.mark.result c.in-Some-segment.is c.mark.ensures (c.in_ok-add.ensures x)
    (rest_more deref_pair c.loop-id.id-iterator c.next.new.self c.next.result (c.in-Some.id, c.in-Some.subject) c.in-Some.is c.next.ensures.steps) (c.loop-id.invariant x)
