use Rattle.temporary.proofs.Whole.{overlay_passes, overlay_stands}
use Rattle.temporary.proofs.overlays.overlay_stands.Goals as goal

pub returns : goal.returns
returns c =
    let m = c.args.index.now in
    let o = c.args.overlay.now in (
      (λ is. overlay_stands m o (λ x. (c.marks_divide_segments.ensures m x c.set.ensures.faultless).apart) (c.passes.ensures.0 is)),
      (λ stands. c.passes.ensures.1 (overlay_passes m o stands)),
    )
