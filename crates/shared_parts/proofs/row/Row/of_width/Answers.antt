use Rattle.std.proofs.Common.{◌≡◌, ◌<◌, ◌≤◌, ◌*◌, ap, ◌∙◌, arith, length, length-append, append_assoc}
use Rattle.std.proofs.Math.Nat.{mul-le-mul_left}
use Rattle.std.proofs.lemmas.Grind.{flat_map-append}
use Rattle.std.specs.Vec.Iter.{into_iter_len}
use Rattle.shared_parts.proofs.PagesLemmas.{all_more, filled_more, filled_most}
use Rattle.shared_parts.proofs.row.Row.of_width.Goals as goal
use Rattle.shared_parts.proofs.row.Row.of_width.Goals.{else-loop-test, then-loop-test+then-len-eq0}

pub loop-preserved : goal.loop-preserved
loop-preserved g c =
    let before = c.loop.invariant in
    let page = c.in_ok-of_next.ensures in
    let left : 0 < into_iter_len c.loop.rest = grind arith in
    rw c.in_ok-push.ensures.items
    record {
      taken = grind (arith, flat_map-append, append_assoc);
      filled = filled_more _ _ _ _ before.filled (before.all_full left) page.most;
      all_full = λ more. all_more _ _ _ _ (before.all_full left) (page.full more);
      counted = grind (arith, length-append);
      ticks = grind arith;
    }

pub returns-clause-most : goal.returns-clause-most
returns-clause-most g c =
    let most = filled_most _ _ _ c.loop.invariant.filled in
    let within : g.P.Page.full * length c.loop.pages.items ≤ g.P.Page.full * c.args.width = mul-le-mul_left _ (rw c.loop.invariant.counted c.loop.auto.counter-end) in
    rw c.in_ok-new.ensures.ok (omega arith)

pub returns-clause-full : goal.returns-clause-full
returns-clause-full g c some =
    let at_most = c.loop.auto.counter-end in
    let as_many : c.loop.counter ≡ c.args.width = elim c.loop-test.branch [
      | else-loop-test w ↦ let at_least = w.loop-test.false in grind arith
      | then-loop-test+then-len-eq0 w ↦ let none = w.if-len-eq0.true in let len = w.len.ensures.value in let same = w.t-3-is in grind arith
    ] in
    let all = c.loop.invariant.all_full (grind arith) in
    rw c.in_ok-new.ensures.ok (all ∙ ap (λ n. g.P.Page.full * n) (c.loop.invariant.counted ∙ as_many))
