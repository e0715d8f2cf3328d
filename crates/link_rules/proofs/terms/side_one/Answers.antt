use Rattle.std.proofs.Common.{sym, ◌∙◌}
use Rattle.link_rules.proofs.SpokeLists.{real_first}
use Rattle.link_rules.proofs.terms.side_one.Goals as goal

pub returns-in-None : goal.returns-in-None
returns-in-None c = c.real_one.ensures ∙ real_first c.args.index.now c.args.overlay.now c.args.owner.number (sym c.in-None.ensures)
