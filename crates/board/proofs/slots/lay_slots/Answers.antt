use Rattle.std.proofs.Common.{◌≡◌, [], ◌∷◌, ◌++◌, ap, ◌∙◌, Some, None}
use Rattle.board.proofs.Begins.{laid_more}
use Rattle.board.proofs.slots.lay_slots.Goals as goal

pub loop-made-preserved : goal.loop-made-preserved
loop-made-preserved g c =
    let same : c.in_ok-share.field-0 ≡ c.args.version.now = c.in_ok-share.ensures in
    let one : c.push.new.self.items ≡ c.loop-made.slots.items ++ None ∷ [] = c.in_ok-push.ensures.items in
    let two : c.push-in-loop-made.new.self.items ≡ c.push.new.self.items ++ None ∷ [] = c.in_ok-push-2.ensures.items in
    let three : c.push-in-loop-made-2.new.self.items ≡ c.push-in-loop-made.new.self.items ++ Some c.in_ok-share.field-0 ∷ [] = c.in_ok-push-3.ensures.items in
    three ∙ ((λ i. two i ++ Some (same i) ∷ []) ∙ (ap (λ l. (l ++ None ∷ []) ++ Some c.args.version.now ∷ []) one ∙ (ap (λ l. ((l ++ None ∷ []) ++ None ∷ []) ++ Some c.args.version.now ∷ []) c.loop-made.invariant ∙ laid_more c.loop-made.made c.args.version.now)))
