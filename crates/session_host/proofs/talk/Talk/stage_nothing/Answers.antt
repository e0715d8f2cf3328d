use Rattle.std.proofs.Common.{subst, Option, List, ℕ}
use Rattle.session_host.specs.Told.{Replied, StagesDraft}
use Rattle.session_host.proofs.talk.Talk.stage_nothing.Goals as goal

pub returns-clause-staged : goal.returns-clause-staged
returns-clause-staged g c view =
    subst (λ (draft : Option (Option (List ℕ))). Replied c.stage.result c.args.out.now.items c.stage.new.out.items (λ told.
    StagesDraft draft (record { view = view; staged = c.args.self.now.staged }) told (record { view = view; staged = c.stage.new.self.staged })))
    c.new.ensures (c.stage.ensures.staged view)
