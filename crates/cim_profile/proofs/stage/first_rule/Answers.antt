use Rattle.std.proofs.Common.{sym, ◌∙◌}
use Rattle.cim_profile.proofs.RuleOrder.{is_asked, on_places, none_asked, one_more, found, none_left}
use Rattle.cim_profile.proofs.stage.first_rule.Goals as goal

pub loop-rule-init : goal.loop-rule-init
loop-rule-init c = none_asked c.args.stage c.args.facts.now.statements.now c.args.subject.now.id.number

pub is_broken-requires-clause-places : goal.is_broken-requires-clause-places
is_broken-requires-clause-places c = λ is. c.requires.places
    (on_places c.args.stage c.loop-rule.rule-index _ (is_asked c.args.stage c.rules-rule-items.result.now c.loop-rule.rule-index _ c.rules-rule-items.ensures c.loop-rule-test.true) is)

pub returns-then-branch : goal.returns-then-branch
returns-then-branch c =
    found c.args.stage c.args.facts.now.statements.now c.args.subject.now.id.number c.loop-rule.rule-index _ _ (is_asked c.args.stage c.rules-rule-items.result.now c.loop-rule.rule-index _ c.rules-rule-items.ensures c.loop-rule-test.true)
    c.loop-rule.invariant (sym c.in_ok-is_broken.ensures ∙ c.if-branch.true) c.number.ensures

pub loop-rule-preserved : goal.loop-rule-preserved
loop-rule-preserved c =
    one_more c.args.stage c.args.facts.now.statements.now c.args.subject.now.id.number c.loop-rule.rule-index _ (is_asked c.args.stage c.rules-rule-items.result.now c.loop-rule.rule-index _ c.rules-rule-items.ensures c.loop-rule-test.true)
    c.loop-rule.invariant (sym c.in_ok-is_broken.ensures ∙ c.if-branch.false)

pub returns : goal.returns
returns c = none_left c.args.stage c.args.facts.now.statements.now c.args.subject.now.id.number c.rules-rule-items.result.now c.loop-rule.rule-index c.rules-rule-items.ensures c.loop-rule-test.false c.loop-rule.invariant
