use Rattle.std.proofs.Common.{List, Option, None, fold, ap, sym, ◌∙◌}
use Rattle.std.specs.List.{filter, filter_map}
use Rattle.cim_model.specs.Marks.{marks_of}
use Rattle.cim_model.specs.Refusals.{marks_at}
use Rattle.room_words.specs.declared.items.TempItem.{TempItem}
use Rattle.segment_cuts.specs.declared.mark.Mark.{Mark}
use Rattle.switching.specs.Parts.{is_at, lesser}
use Rattle.switching.proofs.Least.{least_folded}
use Rattle.switching.proofs.Standing.{both_at, folds_on}
use Rattle.temporary.specs.Parts.{mark_on}
use Rattle.switching.proofs.marks.least_at.Goals as goal

pub returns : goal.returns
returns c =
    let m = c.args.index.now in
    let o = c.args.overlay.now in
    let x = c.args.segment.number in
    let at = c.args.at.mm in
    let first = c.least_mark-least.ensures ∙ ap (λ (marks : List Mark). fold lesser None (filter (is_at at) marks)) c.marks_of.ensures.list in
    let second = c.least_with.ensures ∙ ap (λ (items : List TempItem). fold lesser c.least_mark-least.result (filter (is_at at) (filter_map (mark_on x) items))) c.as_slice.ensures in
    second
    ∙ ap (λ (so_far : Option Mark). fold lesser so_far (filter (is_at at) (filter_map (mark_on x) o.items))) first
    ∙ sym (folds_on lesser None (filter (is_at at) (marks_of m x)) (filter (is_at at) (filter_map (mark_on x) o.items)))
    ∙ ap (λ (marks : List Mark). fold lesser None marks) (sym (both_at m o x at))
    ∙ least_folded (marks_at m o x at)
