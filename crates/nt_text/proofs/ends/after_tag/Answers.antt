use Rattle.nt_text.proofs.Tags.{tag_found, no_tag, tag_subtags}
use Rattle.nt_text.proofs.ends.after_tag.Goals as goal

pub returns-in_err-after_some-clause-only : goal.returns-in_err-after_some-clause-only
returns-in_err-after_some-clause-only c end stops has = absurd (no_tag c.args.bytes.now end c.in_err-after_some.ensures.none stops has)

pub returns-clause-found : goal.returns-clause-found
returns-clause-found c = tag_found c.after_subtags.result c.args.bytes.now c.in_ok-after_some.field-0.now c.in_ok-after_some.ensures.found c.after_subtags.ensures.found

pub returns-clause-only : goal.returns-clause-only
returns-clause-only c end stops has =
    c.after_subtags.ensures.only end stops (tag_subtags c.args.bytes.now c.in_ok-after_some.field-0.now end c.in_ok-after_some.ensures.longest stops has)
