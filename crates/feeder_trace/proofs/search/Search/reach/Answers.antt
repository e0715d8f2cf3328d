use Rattle.std.proofs.Common.{Contains, sym, subst}
use Rattle.feeder_trace.specs.Search.{AtTerm, SearchView}
use Rattle.feeder_trace.proofs.MarkLemmas.{marks_after}
use Rattle.feeder_trace.proofs.RoomLemmas.{own_phases}
use Rattle.feeder_trace.proofs.search.Search.reach.Goals as goal

pub mark-requires-clause-own : goal.mark-requires-clause-own
mark-requires-clause-own c = own_phases c.self.inside c.self.invariant _ c.self.view_is c.args.term c.in-Some.index c.in-Some.own c.in-Some.ensures.found

pub enter-index-requires-clause-absent : goal.enter-index-requires-clause-absent
enter-index-requires-clause-absent c other has =
    let found = c.find.ensures.every other (subst (λ (v : SearchView). Contains v.terminals (c.args.term, other)) (sym c.self.view_is) has) in
    c.in_default.not-Some (found.0, other) found.1

pub returns : goal.returns
returns c = marks_after (AtTerm c.args.term c.args.phases) c.args.self.now c.enter-index.new.self c.mark-2.new.self c.enter-index.ensures.unmarked c.mark-2.ensures
