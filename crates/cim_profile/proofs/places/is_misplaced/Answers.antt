use Rattle.std.proofs.Common.{map, refl, ◌∙◌, sym}
use Rattle.plain_laws.proofs.Tests.{any_here, none_more, none_whole}
use Rattle.cim_model.specs.Values.{mm_of}
use Rattle.statement_set.proofs.Steps.{yields_step, yields_end}
use Rattle.cim_profile.proofs.RuleLemmas.{misplaced_is}
use Rattle.cim_profile.proofs.places.is_misplaced.Goals as goal

pub loop-statement-init : goal.loop-statement-init
loop-statement-init c = (0, cc, refl)

pub returns-then-branch : goal.returns-then-branch
returns-then-branch c =
    let step = yields_step c.args.subject.now.statements c.loop-statement.invariant.0 c.loop-statement.statement-iterator c.next.new.self c.next.result c.in-Some.statement c.loop-statement.invariant.1 c.in-Some.is c.next.ensures.steps in
    sym (any_here _ _ c.loop-statement.invariant.0 c.in-Some.statement.now step.within step.is (rw (← c.deref.ensures.value) (sym c.in_ok-is_wrong.ensures ∙ c.if-branch.true)))
    ∙ misplaced_is c.args.facts.now.statements.now c.args.kind c.args.subject.now.id.number _ (map mm_of c.in_ok-lengths.lengths.items) c.requires.subject.statements c.in_ok-lengths.ensures (rw (← c.class.ensures) (sym (c.is_of.ensures _ c.requires.subject) ∙ c.if-not-is_of.false))

pub loop-statement-preserved : goal.loop-statement-preserved
loop-statement-preserved c =
    let step = yields_step c.args.subject.now.statements c.loop-statement.invariant.0 c.loop-statement.statement-iterator c.next.new.self c.next.result c.in-Some.statement c.loop-statement.invariant.1 c.in-Some.is c.next.ensures.steps in
    (_, step.left, none_more _ _ c.loop-statement.invariant.0 c.in-Some.statement.now step.within step.is (rw (← c.deref.ensures.value) (sym c.in_ok-is_wrong.ensures ∙ c.if-branch.false)) c.loop-statement.invariant.2)

pub returns : goal.returns
returns c =
    sym (none_whole _ _ c.loop-statement.invariant.0 (yields_end c.args.subject.now.statements c.loop-statement.invariant.0 c.loop-statement.statement-iterator c.next.new.self c.next.result c.loop-statement.invariant.1 c.in-None.is c.next.ensures.steps) c.loop-statement.invariant.2)
    ∙ misplaced_is c.args.facts.now.statements.now c.args.kind c.args.subject.now.id.number _ (map mm_of c.in_ok-lengths.lengths.items) c.requires.subject.statements c.in_ok-lengths.ensures (rw (← c.class.ensures) (sym (c.is_of.ensures _ c.requires.subject) ∙ c.if-not-is_of.false))
