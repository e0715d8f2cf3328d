use Rattle.std.proofs.Common.{refl, ◌∙◌, arith}
use Rattle.feeder_trace.proofs.HubRoomLemmas.{hubs_more, numbered_next, put_last, room_to_number}
use Rattle.feeder_trace.proofs.hubs.Hubs.enter.Goals as goal

pub unwrap-requires : goal.unwrap-requires
unwrap-requires c = c.insert.ensures.succeeds (omega (arith, room_to_number c.self.inside c.self.invariant _ c.self.view_is c.args.hub c.requires.hub c.requires.absent, c.self.invariant.places))

pub put_within-requires : goal.put_within-requires
put_within-requires c = omega (arith, room_to_number c.self.inside c.self.invariant _ c.self.view_is c.args.hub c.requires.hub c.requires.absent, c.self.invariant.same_length, c.self.invariant.visited_room, c.self.inside.visited.ok.0)

pub invariant_of-self : goal.invariant_of-self
invariant_of-self c =
    hubs_more c.self.inside c.self.invariant _ c.self.view_is c.args.hub c.requires.hub c.requires.absent _ refl refl
    (rw c.unwrap.ensures at c.insert.ensures.keys ∙ put_last c.self.inside c.self.invariant _ c.self.view_is c.args.hub c.requires.hub c.requires.absent _ c.hubs_are_compared.ensures) c.insert.ensures.spare c.put_within.ensures.items c.put_within.ensures.capacity

pub returns : goal.returns
returns c =
    numbered_next c.self.inside c.self.invariant _ c.self.view_is c.args.hub c.requires.hub c.requires.absent _ _ _ c.len-index.ensures.len
    (rw c.unwrap.ensures at c.insert.ensures.keys ∙ put_last c.self.inside c.self.invariant _ c.self.view_is c.args.hub c.requires.hub c.requires.absent _ c.hubs_are_compared.ensures) c.put_within.ensures.items
