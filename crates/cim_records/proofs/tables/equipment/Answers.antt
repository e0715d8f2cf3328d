use Rattle.std.proofs.Common.{◌∙◌, ◌++◌, ap, sym, List}
use Rattle.std.specs.Map.Iter.{deref_pair}
use Rattle.std.proofs.lemmas.Map.Iter.{rest_all, rest_more}
use Rattle.cim_words.specs.declared.identifier.Id.{Id}
use Rattle.cim_records.proofs.Taken.{taken_all, taken_more, key, kept, equipment_test, equipment_kept, equipment_passes}
use Rattle.cim_records.proofs.tables.equipment.Goals as goal

pub returns : goal.returns
returns c =
    taken_all key (equipment_test c.args.terminals.now) c.loop-id.id-iterator c.loop-id.equipment.items _ (rest_all deref_pair c.loop-id.id-iterator c.next.new.self c.next.result c.in-None.is c.next.ensures.steps) c.loop-id.invariant
    ∙ ap (kept (equipment_test c.args.terminals.now)) c.requires.subjects ∙ equipment_kept _ _ c.requires.faultless c.requires.terminals

pub loop-id-preserved : goal.loop-id-preserved
loop-id-preserved c =
    ap (λ (ids : List Id). ids ++ kept (equipment_test c.args.terminals.now) c.next.new.self) c.in_ok-push.ensures.items
    ∙ taken_more key (equipment_test c.args.terminals.now) (c.in-Some.id.now, c.in-Some.subject.now) c.next.new.self c.loop-id.id-iterator c.loop-id.equipment.items _ (equipment_passes _ (c.in-Some.id.now, c.in-Some.subject.now) _ _ c.members.ensures (sym c.is_equipment.ensures ∙ c.if-not-is_equipment.false))
    (rest_more deref_pair c.loop-id.id-iterator c.next.new.self c.next.result (c.in-Some.id, c.in-Some.subject) c.in-Some.is c.next.ensures.steps) c.loop-id.invariant
