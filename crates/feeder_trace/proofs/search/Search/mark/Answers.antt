use Rattle.std.proofs.Common.{refl, sym, arith}
use Rattle.feeder_trace.proofs.RoomLemmas.{mark_nothing, mark_some, room_more, room_to_wait}
use Rattle.feeder_trace.proofs.search.Search.mark.Goals as goal

pub returns-then-is_empty : goal.returns-then-is_empty
returns-then-is_empty c =
    mark_nothing c.self.inside c.self.invariant _ c.self.view_is c.args.term c.args.phases c.args.index c.args.own _ _ _ c.requires.at c.requires.own c.index-before.ensures c.meet.ensures c.without-new.ensures
    (c.if-is_empty.ensures.phases.0 refl)

pub put_within-requires : goal.put_within-requires
put_within-requires c =
    omega (arith, room_to_wait c.self.inside c.self.invariant _ c.self.view_is c.args.term c.args.phases c.args.index c.args.own _ _ _ c.requires.at c.requires.own c.index-before.ensures c.meet.ensures c.without-new.ensures c.join.result c.join.ensures (sym c.if-is_empty.ensures.value), c.self.inside.pending.ok.0)

pub invariant_of-self : goal.invariant_of-self
invariant_of-self c =
    room_more c.self.inside c.self.invariant _ c.self.view_is c.args.term c.args.phases c.args.index c.args.own _ _ _ c.requires.at c.requires.own c.index-before.ensures c.meet.ensures c.without-new.ensures c.join.result c.join.ensures (sym c.if-is_empty.ensures.value)
    _ _ refl (omega arith) c.put_within.ensures.items c.put_within.ensures.capacity

pub returns : goal.returns
returns c =
    mark_some c.self.inside c.self.invariant _ c.self.view_is c.args.term c.args.phases c.args.index c.args.own _ _ _ c.requires.at c.requires.own c.index-before.ensures c.meet.ensures c.without-new.ensures c.join.result c.join.ensures (sym c.if-is_empty.ensures.value)
    _ c.put_within.ensures.items
