use Rattle.std.proofs.Common.{rules, append_assoc}
use Rattle.std.proofs.lemmas.List.{append-nil}
use Rattle.std.proofs.lemmas.Result.{IfOk-equal}
use Rattle.cim_words.specs.Phases.{phase_text}
use Rattle.cim_words.proofs.phase_texts.append_text.Goals as goal

pub returns-clause-ok : goal.returns-clause-ok
unfolding phase_text
returns-clause-ok c = search (rules, IfOk-equal, append_assoc, append-nil)
