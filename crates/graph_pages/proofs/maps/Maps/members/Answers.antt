use Rattle.std.proofs.Common.{List, option_map, sym, ap, ◌∙◌}
use Rattle.graph_pages.specs.Graph.{GraphView, members_of}
use Rattle.graph_pages.proofs.Places.{members_are}
use Rattle.room_words.specs.declared.anchor.Anchor.{Anchor}
use Rattle.room_words.specs.declared.term.Term.{Term}
use Rattle.graph_pages.proofs.maps.Maps.members.Goals as goal

pub returns-in-Some : goal.returns-in-Some
returns-in-Some c =
    ap (option_map (λ (entry : Anchor × List Term). entry.1)) c.in-Some.ensures
    ∙ sym (members_are c.self.inside.places c.args.place)
    ∙ ap (λ (view : GraphView). members_of view c.args.place) c.self.view_is
