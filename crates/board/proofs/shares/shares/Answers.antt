use Rattle.std.proofs.Common.{◌≡◌, [], ◌∷◌, ◌++◌, ◌∙◌}
use Rattle.std.proofs.lemmas.List.{replicate_more}
use Rattle.board.proofs.shares.shares.Goals as goal

pub loop-made-preserved : goal.loop-made-preserved
loop-made-preserved g c =
    let same : c.in_ok-share.field-0 ≡ c.args.version.now = c.in_ok-share.ensures in
    let pushed : c.push.new.self.items ≡ c.loop-made.copies.items ++ c.in_ok-share.field-0 ∷ [] = c.in_ok-push.ensures.items in
    pushed ∙ ((λ i. c.loop-made.invariant i ++ same i ∷ []) ∙ replicate_more c.loop-made.made c.args.version.now)
