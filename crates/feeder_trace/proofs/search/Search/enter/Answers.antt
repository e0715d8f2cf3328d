use Rattle.std.proofs.Common.{◌≡◌, Some, List, length, slice_get, sym, subst, arith}
use Rattle.cim_words.specs.declared.phases.PhaseSet.{PhaseSet}
use Rattle.room_words.specs.declared.term.Term.{Term}
use Rattle.feeder_trace.proofs.PushLemmas.{get_last}
use Rattle.feeder_trace.proofs.RoomLemmas.{entered_marks, room_entered, room_to_enter, still_absent}
use Rattle.feeder_trace.proofs.search.Search.enter.Goals as goal

pub enter-requires-clause-absent : goal.enter-requires-clause-absent
enter-requires-clause-absent c = still_absent c.self.inside c.self.invariant _ c.self.view_is c.args.term c.args.own c.requires.own c.requires.some c.requires.absent

pub enter-requires-clause-room : goal.enter-requires-clause-room
enter-requires-clause-room c = room_to_enter c.self.inside c.self.invariant _ c.self.view_is c.args.term c.args.own c.requires.own c.requires.some c.requires.absent

pub put_within-requires : goal.put_within-requires
put_within-requires c =
    omega (arith, room_to_enter c.self.inside c.self.invariant _ c.self.view_is c.args.term c.args.own c.requires.own c.requires.some c.requires.absent, c.self.invariant.same_length, c.self.invariant.reached_room, c.self.inside.reached.ok.0)

pub invariant_of-self : goal.invariant_of-self
invariant_of-self c =
    room_entered c.self.inside c.self.invariant _ c.self.view_is c.args.term c.args.own c.requires.own c.requires.some c.requires.absent
    c.enter.new.self c.put_within.new.items c.enter.ensures.entered c.enter.ensures.most c.put_within.ensures.items c.put_within.ensures.capacity

pub returns-clause-index : goal.returns-clause-index
returns-clause-index c =
    rw c.len-index.ensures (subst (λ (ts : List (Term × PhaseSet)). slice_get ts (length c.self.inside.terminals.listed) ≡ Some (c.args.term, c.args.own)) (sym c.enter.ensures.entered) (get_last c.self.inside.terminals.listed (c.args.term, c.args.own)))

pub returns-clause-unmarked : goal.returns-clause-unmarked
returns-clause-unmarked c =
    entered_marks c.self.inside c.self.invariant _ c.self.view_is c.args.term c.args.own c.requires.own c.requires.some c.requires.absent
    c.enter.new.self c.put_within.new.items.items c.enter.ensures.entered c.enter.ensures.most c.put_within.ensures.items
