use Rattle.std.proofs.Common.{arith, ◌+◌, List, Some, cond, length, sum_by, sym, ap, ◌∙◌}
use Rattle.graph_pages.specs.Graph.{GraphView, members_of}
use Rattle.graph_pages.proofs.Places.{entry_at, members_change, none_in, ones}
use Rattle.room_words.specs.Terms.{same_anchor}
use Rattle.room_words.specs.declared.anchor.Anchor.{Anchor}
use Rattle.room_words.specs.declared.term.Term.{Term}
use Rattle.graph_pages.proofs.edit.GraphEdit.put_members.Goals as goal

pub invariant_of-self-inside-2 : goal.invariant_of-self-inside-2
invariant_of-self-inside-2 g c =
    let inside = c.self-inside.inside.0.0 in
    let none = none_in (entry_at c.args.place inside.places) in
    let sizes = c.in_ok-put.ensures.sizes (λ (entry : Anchor × List Term). 1) in (
      omega (arith, none, c.counts_at-gone.ensures.spokes, c.in_ok-counts.ensures.spokes, c.self-inside.invariant.0),
      omega (arith, ones inside.places, ones c.put.new.self, sizes, c.counts_at-gone.ensures.hubs, c.in_ok-counts.ensures.hubs, c.self-inside.invariant.1),
    )

pub returns-clause-members : goal.returns-clause-members
returns-clause-members g c other =
    members_change c.put.new.self c.self-inside.inside.0.0.places c.args.place (Some (c.args.place, c.args.members)) c.in_ok-put.ensures.found other
    ∙ ap (λ (view : GraphView). cond (same_anchor c.args.place other) (Some c.args.members) (members_of view other)) (ap (λ outer. outer.maps) c.self-inside.view_is ∙ c.self.view_is)
