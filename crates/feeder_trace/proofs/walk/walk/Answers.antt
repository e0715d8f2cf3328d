use Rattle.std.proofs.Common.{List, None, ap, sym, ◌∙◌, subst}
use Rattle.graph_pages.specs.declared.star.Spoke.{Spoke}
use Rattle.feeder_trace.specs.Search.{MarksAll}
use Rattle.feeder_trace.specs.Spread.{AmongSpokes, JoinedFrom}
use Rattle.feeder_trace.specs.Views.{SearchView}
use Rattle.feeder_trace.proofs.OverLemmas.{over_begins, over_popped}
use Rattle.feeder_trace.proofs.WalkLemmas.{IsWalk, walk_begins, walk_goes_on, walk_ends, walk_falls}
use Rattle.feeder_trace.proofs.walk.walk.Goals as goal

pub loop-term-init : goal.loop-term-init
loop-term-init c = (
  c.reach_spokes.ensures.same_graph ∙ c.clear.ensures.graph,
  c.reach_spokes.ensures.same_most ∙ c.clear.ensures.most,
  walk_begins c.args.graph.now c.args.star.now.id.number c.args.star.now c.args.phases c.clear.new.self c.reach_spokes.new.search
      (c.clear.ensures.graph ∙ c.requires.search) c.requires.star c.clear.ensures.reached c.clear.ensures.pending
      (subst (λ (spokes : List Spoke). MarksAll (AmongSpokes spokes None c.args.phases) c.clear.new.self c.reach_spokes.new.search) c.as_slice.ensures c.reach_spokes.ensures),
  over_begins c.args.graph.now c.clear-2.new.self c.reach_spokes.new.search (c.clear-2.ensures.graph ∙ c.requires.hubs) c.clear-2.ensures.none,
)

pub spread-requires : goal.spread-requires
spread-requires c = over_popped c.args.graph.now c.loop-term.hubs (c.in-Some.term, c.in-Some.phases) c.loop-term.search c.next.new.self c.loop-term.invariant.3 c.in-Some.ensures.some

pub loop-term-preserved : goal.loop-term-preserved
loop-term-preserved c = (
  c.spread.ensures.marked.same_graph ∙ c.in-Some.ensures.some.same_graph ∙ c.loop-term.invariant.0,
  c.spread.ensures.marked.same_most ∙ c.in-Some.ensures.some.same_most ∙ c.loop-term.invariant.1,
  walk_goes_on c.args.graph.now c.args.star.now.id.number c.args.phases (c.in-Some.term, c.in-Some.phases) c.loop-term.search c.next.new.self c.spread.new.search
      (c.loop-term.invariant.0 ∙ c.requires.search) c.loop-term.invariant.2 c.in-Some.ensures.some c.spread.ensures.marked,
  c.spread.ensures.over,
)

pub loop-term-smaller : goal.loop-term-smaller
loop-term-smaller c =
    walk_falls (c.in-Some.term, c.in-Some.phases) (JoinedFrom c.args.graph.now c.in-Some.term c.in-Some.phases) c.loop-term.search c.next.new.self c.spread.new.search c.in-Some.ensures.some c.spread.ensures.marked

pub returns-clause-search : goal.returns-clause-search
returns-clause-search c = ap (λ (v : SearchView). v.graph) c.in_default.ensures.none.0 ∙ c.loop-term.invariant.0

pub returns-clause-most : goal.returns-clause-most
returns-clause-most c = ap (λ (v : SearchView). v.most) c.in_default.ensures.none.0 ∙ c.loop-term.invariant.1

pub returns-clause-hubs : goal.returns-clause-hubs
returns-clause-hubs c = c.loop-term.invariant.3.same_graph ∙ sym c.requires.hubs

pub returns-clause-walked : goal.returns-clause-walked
returns-clause-walked c a =
    let same = c.in_default.ensures.none.0 in
    let walk = subst (λ (v : SearchView). IsWalk c.args.graph.now c.args.star.now.id.number c.args.phases v) (sym same) c.loop-term.invariant.2 in
    let none = ap (λ (v : SearchView). v.pending) same ∙ c.in_default.ensures.none.1 in
    (walk.sound a, walk_ends c.args.graph.now c.args.star.now.id.number c.args.phases c.next.new.self walk none a)
