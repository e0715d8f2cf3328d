use Rattle.std.proofs.Common.{arith}
use Rattle.difference.proofs.Sizes.{size_small}
use Rattle.difference.proofs.said.Said.size.Goals as goal

pub returns-clause-small : goal.returns-clause-small
returns-clause-small c = omega (arith, size_small c.self.inside.statements c.self.invariant.0, c.self.invariant.1)
