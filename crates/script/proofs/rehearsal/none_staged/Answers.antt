use Rattle.std.proofs.Common.{[], ◌∷◌, ◌++◌, None, ap, ◌∙◌, List, Option}
use Rattle.std.proofs.lemmas.List.{replicate_more}
use Rattle.room_words.specs.Differences.{Changes}
use Rattle.script.proofs.rehearsal.none_staged.Goals as goal

pub loop-preserved : goal.loop-preserved
loop-preserved c = c.in_ok-push.ensures.items ∙ ap (λ (l : List (Option Changes)). l ++ None ∷ []) c.loop.invariant ∙ replicate_more c.loop.counter None
