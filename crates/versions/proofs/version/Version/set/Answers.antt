use Rattle.std.proofs.Common.{List, sym, subst}
use Rattle.cim_words.specs.declared.statement.Statement.{Statement}
use Rattle.versions.specs.History.{IsNow}
use Rattle.versions.proofs.Agreeing.{now_of}
use Rattle.versions.proofs.version.Version.set.Goals as goal

pub returns : goal.returns
returns c =
    let held = c.deref.result.now in (
      held.overlay,
      subst (λ (m : List Statement). IsNow c.args.self.now.base c.args.self.now.log (record { model = m; overlay = held.overlay })) (sym c.set.ensures.set)
          (now_of held _ c.args.self.now c.deref.ensures c.self.view_is c.self.invariant),
    )
