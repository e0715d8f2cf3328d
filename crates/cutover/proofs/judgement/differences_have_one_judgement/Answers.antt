use Rattle.cutover.proofs.OneJudgement.{not_both, one_refusal, one_result}
use Rattle.cutover.proofs.judgement.differences_have_one_judgement.Goals as goal

pub returns-clause-accepted : goal.returns-clause-accepted
returns-clause-accepted c m o d a b is is' = one_result c.one_set.ensures m o d a b is.0 is'.0

pub returns-clause-refused : goal.returns-clause-refused
returns-clause-refused c m o d why other is is' = one_refusal c.one_set.ensures m o d why other is is'

pub returns-clause-either : goal.returns-clause-either
returns-clause-either c m o d a why is denied = not_both c.one_set.ensures m o d a why is denied
