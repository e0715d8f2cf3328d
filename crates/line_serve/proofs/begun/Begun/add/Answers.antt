use Rattle.std.proofs.Common.{List, ◌++◌, ℕ, arith, subst}
use Rattle.line_serve.specs.Parts.{IsTooLong}
use Rattle.line_serve.proofs.LineLaws.{too_long}
use Rattle.line_serve.proofs.begun.Begun.add.Goals as goal

pub returns-then-piece-len-clause-long : goal.returns-then-piece-len-clause-long
returns-then-piece-len-clause-long c refused =
    subst (λ (begun : List ℕ). IsTooLong (begun ++ c.args.piece.now)) c.self.view_is
    (too_long c.self.inside.bytes.items c.args.piece.now c.self.invariant.0.one_line c.requires (omega arith))
