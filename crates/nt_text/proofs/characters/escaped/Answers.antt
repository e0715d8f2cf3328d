use Rattle.nt_text.proofs.Escapes.{no_escape}
use Rattle.nt_text.proofs.characters.escaped.Goals as goal

pub returns-in_default-clause-only : goal.returns-in_default-clause-only
returns-in_default-clause-only c part rest is same = no_escape c.args.coding part c.args.behind.now rest is c.in_default.len_below same
