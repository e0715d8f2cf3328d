use Rattle.std.proofs.Common.{◌∙◌}
use Rattle.cim_words.proofs.Powers.{millimetres_none, millimetres_negative, millimetres_multiplied, millimetres_divided}
use Rattle.cim_words.proofs.length.millimetres.Goals as goal

pub returns-then-number-eq0 : goal.returns-then-number-eq0
returns-then-number-eq0 c = millimetres_none c.args.negative c.args.number c.args.up c.args.down c.if-number-eq0.true

pub returns-then-negative : goal.returns-then-negative
returns-then-negative c =
    millimetres_negative c.args.negative c.args.number c.args.up c.args.down c.if-number-eq0.false c.if-negative.true

pub returns-then-up-down : goal.returns-then-up-down
returns-then-up-down c =
    c.divided.ensures
    ∙ millimetres_divided c.args.negative c.args.number c.args.up c.args.down c.if-number-eq0.false c.if-negative.false c.if-up-down.true

pub returns-else-up-down : goal.returns-else-up-down
returns-else-up-down c =
    c.multiplied.ensures
    ∙ millimetres_multiplied c.args.negative c.args.number c.args.up c.args.down c.if-number-eq0.false c.if-negative.false c.if-up-down.false
