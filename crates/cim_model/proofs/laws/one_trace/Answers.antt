use Rattle.cim_model.specs.Links.{network}
use Rattle.cim_model.specs.Reach.{IsReached}
use Rattle.cim_model.proofs.OneTrace.{one_trace}
use Rattle.cim_model.proofs.laws.one_trace.Goals as goal

pub returns : goal.returns
returns c m o x phases = one_trace (IsReached (network m o) x phases)
