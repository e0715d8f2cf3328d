use Rattle.std.proofs.Common.{List, refl, subst}
use Rattle.std.proofs.lemmas.List.{take_all}
use Rattle.room_words.specs.declared.term.Term.{Term}
use Rattle.feeder_trace.specs.Search.{MarksAll}
use Rattle.feeder_trace.specs.Spread.{AmongMembers}
use Rattle.feeder_trace.proofs.SpreadLemmas.{members_none, members_more}
use Rattle.feeder_trace.proofs.spread.reach_members.Goals as goal

pub loop-term-init : goal.loop-term-init
loop-term-init c = members_none c.args.members.now c.args.phases c.args.search.now

pub loop-term-preserved : goal.loop-term-preserved
loop-term-preserved c =
    members_more c.args.members.now c.loop-term.term-index _ _ c.args.phases c.args.search.now c.loop-term.search c.reach.new.self c.loop-term-test.true refl c.loop-term.invariant c.reach.ensures

pub returns : goal.returns
returns c =
    subst (λ (members : List Term). MarksAll (AmongMembers members c.args.phases) c.args.search.now c.loop-term.search) (take_all c.loop-term.term-index c.args.members.now c.loop-term-test.false) c.loop-term.invariant
