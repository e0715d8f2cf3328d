use Rattle.cim_profile.specs.Walk.{breaks_in}
use Rattle.cim_profile.proofs.Walks.{walk_begins, walk_run, walk_steps, walk_ends}
use Rattle.cim_profile.proofs.faults.least_of.Goals as goal

pub loop-id-init : goal.loop-id-init
loop-id-init c = (_, walk_begins (breaks_in c.args.stage c.args.facts.now.statements.now) c.args.facts.now.statements.now c.into_iter-id-iterator.result (cc) c.subjects-id-items.ensures.ordered)

pub least_with-requires-clause-statements : goal.least_with-requires-clause-statements
least_with-requires-clause-statements c =
    walk_run _ _ _ c.loop-id.id-iterator c.next.new.self c.in-Some.about c.in-Some.id c.next.result c.loop-id.least c.loop-id.invariant.1 c.in-Some.is c.next.ensures.steps

pub loop-id-preserved : goal.loop-id-preserved
loop-id-preserved c =
    walk_steps _ _ _ c.loop-id.id-iterator c.next.new.self c.in-Some.about c.in-Some.id c.next.result c.loop-id.least _ c.loop-id.invariant.1 c.in-Some.is c.next.ensures.steps c.in_ok-least.ensures

pub returns : goal.returns
returns c = walk_ends _ _ _ c.loop-id.id-iterator c.next.new.self c.next.result c.loop-id.least c.loop-id.invariant.1 c.in-None.is c.next.ensures.steps
