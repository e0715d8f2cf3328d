use Rattle.std.proofs.Common.{◌++◌, ◌≤◌, List, length, ap, ◌∙◌, subst}
use Rattle.std.specs.List.{flat_map}
use Rattle.std.proofs.lemmas.List.{take_all}
use Rattle.cim_model.specs.Marks.{marks_of}
use Rattle.link_rules.specs.Parts.{mark_on}
use Rattle.link_rules.proofs.MemberLists.{each_listed}
use Rattle.link_rules.proofs.line.marks_on.Goals as goal
use Rattle.room_words.specs.Items.{as_list}
use Rattle.room_words.specs.declared.items.TempItem.{TempItem}
use Rattle.segment_cuts.specs.declared.mark.Mark.{Mark}

pub returns : goal.returns
returns c =
    c.loop-item.invariant
    ∙ ap (λ (items : List TempItem). marks_of c.args.index.now c.args.segment.number ++ flat_map (λ (one : TempItem). as_list (mark_on c.args.segment.number one)) items) (take_all c.loop-item.item-index c.args.overlay.now.items (subst (λ (items : List TempItem). length items ≤ c.loop-item.item-index) c.as_slice-item-items.ensures c.loop-item-test.false))
    ∙ ap (λ (marks : List Mark). marks_of c.args.index.now c.args.segment.number ++ marks) (each_listed c.args.segment.number c.args.overlay.now.items)
