use Rattle.std.proofs.Common.{◌≡◌, List, Some, slice_get, sym, ◌∙◌, subst, Contains}
use Rattle.std.proofs.lemmas.List.{take_all}
use Rattle.room_words.specs.declared.term.Term.{Term}
use Rattle.feeder_trace.specs.Spread.{shown_line, AmongMembers, InSections, IsOver}
use Rattle.graph_pages.specs.Graph.{GraphView}
use Rattle.feeder_trace.specs.Hubs.{IsHub, StandsIn}
use Rattle.feeder_trace.specs.Search.{MarksAll}
use Rattle.feeder_trace.specs.declared.hub.Hub.TheVariants.{Section}
use Rattle.feeder_trace.proofs.OverLemmas.{section_at, section_stands}
use Rattle.feeder_trace.proofs.SpreadLemmas.{line_is, line_marks, sections_more, sections_skip, section_marks}
use Rattle.feeder_trace.proofs.TermLemmas.{contains_by, absent_by}
use Rattle.feeder_trace.proofs.spread.along_line.Goals as goal

pub loop-index-preserved-then-not-contains : goal.loop-index-preserved-then-not-contains
loop-index-preserved-then-not-contains c = (
  sections_skip c.as_slice-section-items.result.now c.loop-index.index c.section-item.result c.section-item.result c.args.term c.meet-phases.result c.args.search.now c.loop-index.search c.loop-index-test.true c.section-item.is
      (λ has. absent_by _ c.terms_are_compared.ensures.derived c.as_slice.result.now c.args.term (sym c.contains.ensures.value ∙ c.if-not-contains.true) (subst (λ (ts : List Term). Contains ts c.args.term) (sym c.as_slice.ensures) has))
      c.loop-index.invariant.0,
  c.loop-index.invariant.1,
)

pub loop-index-preserved : goal.loop-index-preserved
loop-index-preserved c = (
  sections_more c.as_slice-section-items.result.now c.loop-index.index c.section-item.result c.section-item.result c.args.term c.meet-phases.result c.args.search.now c.loop-index.search c.over_hub.new.search c.loop-index-test.true c.section-item.is
      (subst (λ (ts : List Term). Contains ts c.args.term) c.as_slice.ensures (contains_by _ c.terms_are_compared.ensures.derived c.as_slice.result.now c.args.term (sym c.contains.ensures.value ∙ c.if-not-contains.false)))
      c.loop-index.invariant.0
      (subst (λ (ts : List Term). MarksAll (AmongMembers ts c.meet-phases.result) c.loop-index.search c.over_hub.new.search) c.as_slice-in-loop-index.ensures c.over_hub.ensures.marked),
  subst (λ (g : GraphView). IsOver g c.over_hub.new.hubs c.over_hub.new.search) c.loop-index.invariant.1.same_graph c.over_hub.ensures.over,
)

pub returns-clause-marked : goal.returns-clause-marked
returns-clause-marked c =
    line_marks c.args.graph.now c.args.term c.args.phases (shown_line c.in-Some.line) c.args.search.now c.loop-index.search
    (line_is c.args.graph.now c.args.term c.args.star.now (Some (shown_line c.in-Some.line)) c.requires.star c.in-Some.ensures.line)
    (section_marks (shown_line c.in-Some.line) c.args.term c.args.phases c.meet-phases.result c.args.search.now c.loop-index.search c.meet-phases.ensures
    (subst (λ (sections : List (List Term)). MarksAll (InSections sections c.args.term c.meet-phases.result) c.args.search.now c.loop-index.search)
    (take_all c.loop-index.index c.as_slice-section-items.result.now c.loop-index-test.false ∙ c.as_slice-section-items.ensures) c.loop-index.invariant.0))

pub over_hub-requires-clause-hub : goal.over_hub-requires-clause-hub
over_hub-requires-clause-hub c =
    let line = shown_line c.in-Some.line in
    let at : slice_get line.sections c.loop-index.index ≡ Some c.section-item.result = section_at line.sections c.as_slice-section-items.result.now c.loop-index.index c.section-item.result c.as_slice-section-items.ensures c.loop-index-test.true c.section-item.is in
    subst (λ (g : GraphView). IsHub g (Section c.in-Some.line.segment c.loop-index.index)) (sym c.loop-index.invariant.1.same_graph) (line, c.in-Some.ensures.segment, c.section-item.result, at)

pub over_hub-requires-clause-terms : goal.over_hub-requires-clause-terms
over_hub-requires-clause-terms c t =
    let line = shown_line c.in-Some.line in
    let at : slice_get line.sections c.loop-index.index ≡ Some c.section-item.result = section_at line.sections c.as_slice-section-items.result.now c.loop-index.index c.section-item.result c.as_slice-section-items.ensures c.loop-index-test.true c.section-item.is in
    let stands = section_stands c.args.graph.now c.in-Some.line.segment line c.loop-index.index c.section-item.result c.in-Some.ensures.segment at t in
    let same = c.loop-index.invariant.1.same_graph in (
      λ has. subst (λ (ts : List Term). Contains ts t) (sym c.as_slice-in-loop-index.ensures) (stands.0 (subst (λ (g : GraphView). StandsIn g (Section c.in-Some.line.segment c.loop-index.index) t) same has)),
      λ has. subst (λ (g : GraphView). StandsIn g (Section c.in-Some.line.segment c.loop-index.index) t) (sym same) (stands.1 (subst (λ (ts : List Term). Contains ts t) c.as_slice-in-loop-index.ensures has)),
    )
