use Rattle.std.proofs.Common.{List, length, ap, ◌∙◌, arith}
use Rattle.std.specs.List.{filter}
use Rattle.cim_model.specs.Marks.{is_item_on}
use Rattle.room_words.specs.declared.items.TempItem.{TempItem}
use Rattle.segment_cuts.specs.declared.mark.Mark.{Mark}
use Rattle.temporary.proofs.Counts.{marks_counted, within_two}
use Rattle.temporary.proofs.marks.has_at_most_marks.Goals as goal

pub returns-then-of_model-most : goal.returns-then-of_model-most
returns-then-of_model-most c =
    let all = marks_counted c.args.index.now c.args.overlay.now c.args.segment.number in
    let of_model = ap (λ (marks : List Mark). length marks) c.marks_of-of_model.ensures.list in
    let of_items = c.count_on-of_items.ensures ∙ ap (λ (items : List TempItem). length (filter (is_item_on c.args.segment.number) items)) c.as_slice.ensures in
    within_two c.args.most (length c.marks_of-of_model.result.now) c.count_on-of_items.result _ c.if-of_model-most.true (omega (arith, all, of_model, of_items))
