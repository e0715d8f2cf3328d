use Rattle.std.proofs.Common.{◌≡◌, ◌∙◌, ℕ, false, true, sym, ap, subst, refl}
use Rattle.cim_model.specs.Links.{network}
use Rattle.graph_pages.specs.Walks.{wiring}
use Rattle.room_words.specs.TraceText.{trace_text}
use Rattle.versions.specs.Held.{Agrees, now_in}
use Rattle.versions.proofs.Agreeing.{now_of}
use Rattle.versions.proofs.TraceLemmas.{a_star, no_star, other_trace}
use Rattle.versions.proofs.version.Version.trace_text.Goals as goal

pub returns-clause-no_such : goal.returns-clause-no_such
returns-clause-no_such c is =
    let held = c.deref.result.now in
    let agrees = subst Agrees (sym c.deref.ensures) c.self.invariant in
    record {
      now = now_in held;
      replays = now_of held _ c.args.self.now c.deref.ensures c.self.view_is c.self.invariant;
      missing = no_star held.index held.overlay held.graph c.args.start.number agrees.map (c.trace.ensures.no_such.0 (rw c.in-Err.is refl));
    }

pub returns-in-Ok-clause-ok : goal.returns-in-Ok-clause-ok
returns-in-Ok-clause-ok c =
    let held = c.deref.result.now in
    let agrees = subst Agrees (sym c.deref.ensures) c.self.invariant in
    let start = c.args.start.number in (
      c.deref-in-Ok.result.now,
      c.in_ok-extend_from_slice-in-Ok.ensures.items,
      record {
        now = now_in held;
        replays = now_of held _ c.args.self.now c.deref.ensures c.self.view_is c.self.invariant;
        live = a_star held.index held.overlay held.graph start agrees.map (λ none. let failed : false ≡ true = rw c.in-Ok.is at (c.trace.ensures.no_such.1 none) in absurd cc);
        rows = c.trace.new.self.rows;
        trace = other_trace (wiring held.graph) (network held.index held.overlay) start c.args.phases c.trace.new.self.rows
            (λ y p. c.walks_are_reach.ensures.equipment held.index held.overlay held.graph agrees.faultless agrees.stands agrees.map start c.args.phases y p) c.in-Ok.ensures.traced;
        is_text = c.deref-in-Ok.ensures.value ∙ (c.in_ok-text-in-Ok.ensures ∙ ap (λ (at : ℕ). trace_text at c.trace.new.self.rows) c.number.ensures);
      },
    )
