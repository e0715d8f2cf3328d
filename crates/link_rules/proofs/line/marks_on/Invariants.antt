use Rattle.std.proofs.Common.{◌≡◌, ◌++◌, take}
use Rattle.std.specs.List.{flat_map}
use Rattle.cim_model.specs.Marks.{marks_of}
use Rattle.link_rules.specs.Parts.{mark_on}
use Rattle.link_rules.proofs.line.marks_on.Given as goal
use Rattle.room_words.specs.Items.{as_list}
use Rattle.room_words.specs.declared.items.TempItem.{TempItem}

abbrev pub invariant-loop-item : goal.invariant-loop-item
invariant-loop-item l = l.marks.items ≡ marks_of l.index l.segment.number ++ flat_map (λ (one : TempItem). as_list (mark_on l.segment.number one)) (take l.item-index l.overlay.items)
