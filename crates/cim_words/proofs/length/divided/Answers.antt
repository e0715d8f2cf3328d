use Rattle.std.proofs.Common.{◌^◌}
use Rattle.cim_words.proofs.Powers.{power_pos, divided_none}
use Rattle.cim_words.proofs.length.divided.Goals as goal

pub returns-in_default : goal.returns-in_default
returns-in_default c = divided_none c.args.number (10 ^ c.args.power) c.requires c.in_default.ensures

pub nonzero_div-result : goal.nonzero_div-result
nonzero_div-result c = rw c.in-Some.ensures.1 (power_pos c.args.power)
