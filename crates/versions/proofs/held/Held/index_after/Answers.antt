use Rattle.std.proofs.Common.{◌≡◌, List, sym, subst, refl}
use Rattle.cim_model.specs.Profile.{IsFaultless}
use Rattle.cim_words.specs.declared.statement.Statement.{Statement}
use Rattle.cutover.specs.Judgement.{IsAccepted}
use Rattle.room_words.specs.Differences.{Changes}
use Rattle.room_words.specs.declared.overlay.Overlay.{Overlay}
use Rattle.versions.proofs.held.Held.index_after.Goals as goal

-- an answer on a model is one on the same model under another name
accepted_too : {m set a b : List Statement} (o : Overlay) (d : Changes) → set ≡ m → b ≡ a → IsAccepted set o d a → IsAccepted m o d b
accepted_too {m} {set} {a} {b} o d model answer accepted = subst (λ (n : List Statement). IsAccepted n o d b) model (subst (λ (n : List Statement). IsAccepted set o d n) (sym answer) accepted)

pub judge_difference-requires-clause-faultless : goal.judge_difference-requires-clause-faultless
judge_difference-requires-clause-faultless c = subst IsFaultless (sym c.set.ensures.set) c.requires.faultless

pub returns-in_ok-build-in-Ok-clause-takes : goal.returns-in_ok-build-in-Ok-clause-takes
returns-in_ok-build-in-Ok-clause-takes c = (accepted_too c.args.self.now.overlay c.args.difference.now c.set.ensures.set c.in_ok-build-in-Ok.ensures c.in-Ok.ensures.accepted, refl)

pub returns-in_ok-build-in-Ok-clause-stands : goal.returns-in_ok-build-in-Ok-clause-stands
returns-in_ok-build-in-Ok-clause-stands c =
    let accepted = accepted_too c.args.self.now.overlay c.args.difference.now c.set.ensures.set c.in_ok-build-in-Ok.ensures c.in-Ok.ensures.accepted in
    (accepted.2, c.accepted_differences_stand.ensures c.args.self.now.index c.args.self.now.overlay c.args.difference.now c.in_ok-build-in-Ok.field-0 c.requires.stands accepted)
