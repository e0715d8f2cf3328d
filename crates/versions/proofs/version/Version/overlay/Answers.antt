use Rattle.versions.proofs.Agreeing.{now_of}
use Rattle.versions.proofs.version.Version.overlay.Goals as goal

pub returns : goal.returns
returns c = (c.deref.result.now.index, now_of c.deref.result.now _ c.args.self.now c.deref.ensures c.self.view_is c.self.invariant)
