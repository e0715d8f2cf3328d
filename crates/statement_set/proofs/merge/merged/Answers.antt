use Rattle.std.proofs.Common.{◌<◌, ◌⊎◌, inl, inr, length, sym, arith}
use Rattle.statement_set.proofs.merge.merged.Goals as goal
use Rattle.statement_set.proofs.merge.merged.Goals.{in_default, in-len1-up+in_default-right}
use Rattle.statement_set.proofs.Merging.{parted, takes_first, takes_second, takes_both, merging_ends}

pub loop-left-preserved-in-Less : goal.loop-left-preserved-in-Less
loop-left-preserved-in-Less c =
    rw (c.in_ok-push-in-Less.ensures.items, c.in_ok-copy-in-Less.ensures)
    (takes_first c.args.these.now c.args.those.now c.loop-left.merged.items _ _ _ _ c.first-item.result c.other-item.result
    (parted c.loop-left.left.now c.first-item.result (omega arith) c.first-item.is) (parted c.loop-left.right.now c.other-item.result (omega arith) c.other-item.is)
    (sym c.in-Less.ensures) c.loop-left.invariant)

pub loop-left-preserved-in-Equal : goal.loop-left-preserved-in-Equal
loop-left-preserved-in-Equal c =
    rw (c.in_ok-push-in-Equal.ensures.items, c.in_ok-copy-in-Equal.ensures)
    (takes_both c.args.these.now c.args.those.now c.loop-left.merged.items _ _ _ _ c.first-item.result c.other-item.result
    (parted c.loop-left.left.now c.first-item.result (omega arith) c.first-item.is) (parted c.loop-left.right.now c.other-item.result (omega arith) c.other-item.is)
    (sym c.in-Equal.ensures) c.loop-left.invariant)

pub loop-left-preserved : goal.loop-left-preserved
loop-left-preserved c =
    rw (c.in_ok-push-in-Greater.ensures.items, c.in_ok-copy-in-Greater.ensures)
    (takes_second c.args.these.now c.args.those.now c.loop-left.merged.items _ _ _ _ c.first-item.result c.other-item.result
    (parted c.loop-left.left.now c.first-item.result (omega arith) c.first-item.is) (parted c.loop-left.right.now c.other-item.result (omega arith) c.other-item.is)
    (sym c.in-Greater.ensures) c.loop-left.invariant)

pub returns : goal.returns
returns c =
    let none = elim c.if-left-lt1.branch as (λ _. (length c.loop-left.left.now < 1) ⊎ (length c.loop-left.right.now < 1)) [ in_default w ↦ inl (omega arith) | in-len1-up+in_default-right w ↦ inr (omega arith) ] in
    rw (c.in_ok-append_copies-2.ensures, c.in_ok-append_copies.ensures)
    (merging_ends c.args.these.now c.args.those.now c.loop-left.merged.items c.loop-left.left.now c.loop-left.right.now none c.loop-left.invariant)
