use Rattle.std.proofs.Common.{arith}
use Rattle.feeder_trace.proofs.PartLemmas.{gather_begins, gather_more, gathered_out, gathered_in}
use Rattle.feeder_trace.proofs.gather.gather.Goals as goal

pub loop-index-init : goal.loop-index-init
loop-index-init c = (gather_begins c.args.graph.now c.args.search.now c.clear.new.self.items c.clear.ensures.items, omega (arith, c.clear.ensures.len), omega (arith, c.clear.ensures.capacity))

pub count_term-requires : goal.count_term-requires
count_term-requires c = omega (arith, c.loop-index.invariant.1, c.loop-index.invariant.2, c.requires, c.len-index-end.ensures.within, c.loop-index-test.true)

pub loop-index-preserved : goal.loop-index-preserved
loop-index-preserved c = (
  gather_more c.args.graph.now c.args.search.now c.loop-index.index c.at.result.0 c.at.result.1 c.loop-index.parts c.count_term.new.parts c.at.ensures.term c.at.ensures.reached c.count_term.ensures c.loop-index.invariant.0,
  omega (arith, c.loop-index.invariant.1, c.count_term.ensures.len),
  omega (arith, c.loop-index.invariant.2, c.count_term.ensures.capacity),
)

pub returns-clause-counted : goal.returns-clause-counted
returns-clause-counted c y p = (
  gathered_out c.args.graph.now c.args.search.now c.loop-index.index c.loop-index.parts.items c.loop-index.invariant.0 y p,
  gathered_in c.args.graph.now c.args.search.now c.loop-index.index c.loop-index.parts.items c.loop-index.invariant.0 (omega (arith, c.loop-index-test.false, c.len-index-end.ensures.len)) y p,
)

pub returns-clause-some : goal.returns-clause-some
returns-clause-some c = c.loop-index.invariant.0.have

pub returns-clause-len : goal.returns-clause-len
returns-clause-len c = omega (arith, c.loop-index.invariant.1, c.loop-index.auto.index-end, c.len-index-end.ensures.within)

pub returns-clause-capacity : goal.returns-clause-capacity
returns-clause-capacity c = c.loop-index.invariant.2
