use Rattle.cim_profile.proofs.RuleOrder.{AreKept}
use Rattle.cim_profile.proofs.stage.first_rule.Given as goal

abbrev pub invariant-loop-rule : goal.invariant-loop-rule
invariant-loop-rule l = AreKept l.fn.stage l.facts.statements.now l.subject.id.number l.rule-index
