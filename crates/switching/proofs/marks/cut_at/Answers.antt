use Rattle.std.proofs.Common.{◌≡◌, List, Bool, Some, None, find, ap, sym, ◌∙◌}
use Rattle.std.specs.List.{filter, filter_map}
use Rattle.cim_model.specs.Marks.{marks_of}
use Rattle.room_words.specs.declared.items.TempItem.{TempItem}
use Rattle.segment_cuts.specs.declared.mark.Mark.{Mark}
use Rattle.switching.specs.Parts.{is_at}
use Rattle.switching.proofs.Standing.{both_at, found_first, found_second}
use Rattle.temporary.specs.Parts.{mark_on}
use Rattle.switching.proofs.marks.cut_at.Goals as goal

abbrev divides : Mark → Bool
divides one = one.divides

pub returns-in-Some : goal.returns-in-Some
returns-in-Some c =
    let m = c.args.index.now in
    let o = c.args.overlay.now in
    let x = c.args.segment.number in
    let at = c.args.at.mm in
    let first : find divides (filter (is_at at) (marks_of m x)) ≡ Some c.in-Some.cut =
    sym (c.cut_mark.ensures ∙ ap (λ (marks : List Mark). find divides (filter (is_at at) marks)) c.marks_of.ensures.list) ∙ c.in-Some.is in
    sym (ap (λ (marks : List Mark). find divides marks) (both_at m o x at) ∙ found_first divides (filter (is_at at) (marks_of m x)) (filter (is_at at) (filter_map (mark_on x) o.items)) c.in-Some.cut first)

pub returns-in-None : goal.returns-in-None
returns-in-None c =
    let m = c.args.index.now in
    let o = c.args.overlay.now in
    let x = c.args.segment.number in
    let at = c.args.at.mm in
    let first : find divides (filter (is_at at) (marks_of m x)) ≡ None =
    sym (c.cut_mark.ensures ∙ ap (λ (marks : List Mark). find divides (filter (is_at at) marks)) c.marks_of.ensures.list) ∙ c.in-None.is in
    c.cut_item.ensures
    ∙ ap (λ (items : List TempItem). find divides (filter (is_at at) (filter_map (mark_on x) items))) c.as_slice.ensures
    ∙ sym (ap (λ (marks : List Mark). find divides marks) (both_at m o x at) ∙ found_second divides (filter (is_at at) (marks_of m x)) (filter (is_at at) (filter_map (mark_on x) o.items)) first)
