use Rattle.link_rules.proofs.LineTerms.{lists_same}
use Rattle.link_rules.proofs.laws.lines_list_terminals_at_spots.Goals as goal

pub returns : goal.returns
returns c m o x sections are = lists_same m o x sections are
