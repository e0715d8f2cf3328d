use Rattle.std.proofs.Common.{sym, ◌∙◌}
use Rattle.temporary.proofs.Whole.{item_passes, item_stands}
use Rattle.temporary.proofs.items.item_stands.Goals as goal

pub returns : goal.returns
returns c =
    let m = c.args.index.now in
    let o = c.args.overlay.now in (
      (λ is. item_stands m o c.args.item.now c.requires (λ x. (c.marks_divide_segments.ensures m x c.set.ensures.faultless).apart) (sym c.does_stand.ensures ∙ is)),
      (λ stands. c.does_stand.ensures ∙ item_passes m o c.args.item.now stands),
    )
