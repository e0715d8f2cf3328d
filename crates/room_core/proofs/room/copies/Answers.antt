use Rattle.std.proofs.Common.{◌≡◌, [], ◌∷◌, ◌++◌, ◌∙◌}
use Rattle.std.proofs.lemmas.List.{replicate_more}
use Rattle.room_core.proofs.room.copies.Goals as goal

pub loop-preserved : goal.loop-preserved
loop-preserved g c =
    let same : c.in_ok-share.field-0 ≡ c.args.first.now = c.in_ok-share.ensures in
    let pushed : c.push.new.self.items ≡ c.loop.copies.items ++ c.in_ok-share.field-0 ∷ [] = c.in_ok-push.ensures.items in
    pushed ∙ ((λ i. c.loop.invariant i ++ same i ∷ []) ∙ replicate_more c.loop.counter c.args.first.now)
