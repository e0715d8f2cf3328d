use Rattle.nt_text.proofs.Tags.{subtags_go_on, no_subtag, subtags_end}
use Rattle.nt_text.proofs.ends.after_subtags.Goals as goal

pub returns-in_err-rest-clause-only : goal.returns-in_err-rest-clause-only
returns-in_err-rest-clause-only c end stops has =
    absurd (no_subtag c.args.bytes.now c.loop-subtag.rest.now c.in-Some.subtag.now end c.loop-subtag.invariant c.in-Some.ensures.found c.in_err-rest.ensures.none stops has)

pub loop-subtag-preserved : goal.loop-subtag-preserved
loop-subtag-preserved c =
    subtags_go_on c.args.bytes.now c.loop-subtag.rest.now c.in-Some.subtag.now c.in_ok-rest.rest.now c.loop-subtag.invariant c.in-Some.ensures.found
    c.in_ok-rest.ensures.found c.in_ok-rest.ensures.longest

pub returns-clause-only : goal.returns-clause-only
returns-clause-only c end stops has =
    subtags_end c.loop-subtag.rest.now end (λ on begins. rw c.in_default.is at (c.after_hyphen.ensures.only on begins)) (c.loop-subtag.invariant.only end stops has)
