use Rattle.std.proofs.Common.{arith}
use Rattle.feeder_trace.proofs.RoomLemmas.{room_empty}
use Rattle.feeder_trace.proofs.search.Search.clear.Goals as goal

pub invariant_of-self : goal.invariant_of-self
invariant_of-self c =
    room_empty c.self.inside.graph c.clear.new.self c.clear-2.new.self c.clear-3.new.self c.clear.ensures.none (omega (arith, c.self.invariant.enough, c.clear.ensures.most)) c.clear-2.ensures.items c.clear-3.ensures.items
    (omega (arith, c.self.invariant.reached_room, c.clear.ensures.most, c.clear-2.ensures.capacity))
    (omega (arith, c.self.invariant.pending_room, c.clear.ensures.most, c.clear-3.ensures.capacity))
