use Rattle.std.proofs.Common.{◌≡◌, Some, slice_get, sym, subst}
use Rattle.feeder_trace.specs.Views.{TerminalsView}
use Rattle.feeder_trace.proofs.terminals.Terminals.term.Goals as goal

pub returns : goal.returns
returns c = (
  c.unwrap.result.1.now,
  subst (λ (v : TerminalsView). slice_get v.listed c.args.index ≡ Some (c.unwrap.result.0.now, c.unwrap.result.1.now)) c.self.view_is
      (sym (rw c.unwrap.ensures at c.get_index.ensures.entry)),
)
