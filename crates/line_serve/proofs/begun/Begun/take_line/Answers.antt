use Rattle.line_serve.proofs.LineLaws.{too_long_among}
use Rattle.line_serve.proofs.begun.Begun.take_line.Goals as goal

pub returns-then-not-add-clause-long : goal.returns-then-not-add-clause-long
returns-then-not-add-clause-long c =
    too_long_among c.args.self.now c.first_line.result.0.now c.args.bytes.now c.first_line.result.1 c.first_line.ensures.line c.first_line.ensures.all
    (c.add.ensures.long c.if-not-add.true)
