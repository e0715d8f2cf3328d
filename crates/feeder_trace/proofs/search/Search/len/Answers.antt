use Rattle.std.proofs.Common.{ap, arith}
use Rattle.feeder_trace.specs.Search.{SearchView}
use Rattle.feeder_trace.proofs.RoomLemmas.{terminals_within}
use Rattle.feeder_trace.proofs.search.Search.len.Goals as goal

pub returns-clause-within : goal.returns-clause-within
returns-clause-within c =
    omega (arith, terminals_within c.self.inside c.self.invariant, c.len.ensures, ap (λ (v : SearchView). v.most) c.self.view_is)
