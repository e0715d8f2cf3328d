use Rattle.std.proofs.Common.{◌≡◌, List, true, false, sym, subst, refl, true≢false}
use Rattle.cim_words.specs.declared.statement.Statement.{Statement}
use Rattle.cim_model.specs.Links.{network}
use Rattle.graph_pages.specs.Walks.{wiring}
use Rattle.link_rules.specs.Map.{IsMap}
use Rattle.room_words.specs.Overlay.{no_overlay}
use Rattle.room_plain.specs.Run.{RefusesTrace}
use Rattle.room_plain.proofs.TraceLemmas.{a_star, no_star, other_trace, without_memory}
use Rattle.room_plain.proofs.tracing.trace_of.Goals as goal

pub returns-in-Ok-clause-traced : goal.returns-in-Ok-clause-traced
returns-in-Ok-clause-traced c =
    let entries : IsMap c.args.set.now no_overlay c.in_ok-graph.graph = subst (λ (m : List Statement). IsMap m no_overlay c.in_ok-graph.graph) c.in_ok-index.ensures c.in_ok-graph.ensures in
    record {
      equipment = a_star c.args.set.now c.in_ok-graph.graph c.args.source.number entries (λ none. let failed : false ≡ true = rw c.in-Ok.is at (c.trace.ensures.no_such.1 none) in absurd (true≢false (sym failed)));
      rows = c.trace.new.self.rows;
      trace = other_trace (wiring c.in_ok-graph.graph) (network c.args.set.now no_overlay) c.args.source.number c.args.phases c.trace.new.self.rows
          (λ y p. c.walks_are_reach.ensures.equipment c.args.set.now no_overlay c.in_ok-graph.graph c.requires (c.the_empty_overlay_stands.ensures c.args.set.now) entries c.args.source.number c.args.phases y p) c.in-Ok.ensures.traced;
      is_text = c.in_ok-write_trace-in-Ok.ensures;
    }

pub returns-in_err-write_trace-in-Ok-clause-refused : goal.returns-in_err-write_trace-in-Ok-clause-refused
returns-in_err-write_trace-in-Ok-clause-refused c =
    without_memory c.from_residual-in_err-write_trace-in-Ok.result (RefusesTrace c.args.set.now c.args.source.number) c.from_residual-in_err-write_trace-in-Ok.ensures.1

pub returns-clause-refused : goal.returns-clause-refused
returns-clause-refused c =
    let entries : IsMap c.args.set.now no_overlay c.in_ok-graph.graph = subst (λ (m : List Statement). IsMap m no_overlay c.in_ok-graph.graph) c.in_ok-index.ensures c.in_ok-graph.ensures in
    no_star c.args.set.now c.in_ok-graph.graph c.args.source.number entries (c.trace.ensures.no_such.0 (rw c.in-Err.is refl))
