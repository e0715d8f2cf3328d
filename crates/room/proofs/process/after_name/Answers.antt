use Rattle.std.proofs.Common.{◌++◌, Option, subst, ap, sym, ◌∙◌}
use Rattle.std.specs.Vec.Iter.{into_iter_items, into_iter_steps}
use Rattle.room.proofs.ArgLemmas.{after_first, no_more, one_more}
use Rattle.room.proofs.process.after_name.Goals as goal

pub loop-word-init : goal.loop-word-init
loop-word-init c =
    let rest = c.into_iter-word-iterator.result in
    after_first c.args.args c.next.new.self c.next.result c.next.ensures.cases ∙ ap into_iter_items (sym c.into_iter-word-iterator.ensures.into_iter_gives)
    ∙ ap (λ l. l ++ into_iter_items rest) (sym c.new-words.ensures.items)

pub loop-word-preserved : goal.loop-word-preserved
loop-word-preserved c =
    let rest = c.next-in-loop-word.new.self in
    let step = subst (λ (o : Option _). into_iter_steps c.loop-word.word-iterator o rest) c.in-Some.is c.next-in-loop-word.ensures.steps in
    one_more _ c.loop-word.words.items _ c.loop-word.word-iterator rest c.in-Some.word c.loop-word.invariant step c.in_ok-push.ensures.items

pub returns : goal.returns
returns c =
    let rest = c.next-in-loop-word.new.self in
    let step = subst (λ (o : Option _). into_iter_steps c.loop-word.word-iterator o rest) c.in-None.is c.next-in-loop-word.ensures.steps in
    no_more _ c.loop-word.words.items c.loop-word.word-iterator rest c.loop-word.invariant step
