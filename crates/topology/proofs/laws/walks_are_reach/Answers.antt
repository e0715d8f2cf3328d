use Rattle.cim_model.specs.Profile.{IsFaultless}
use Rattle.std.proofs.Common.{List}
use Rattle.room_words.specs.declared.overlay.Overlay.{Overlay}
use Rattle.link_rules.specs.Map.{IsMap}
use Rattle.graph_pages.specs.Graph.{GraphView}
use Rattle.cim_words.specs.declared.statement.Statement.{Statement}
use Rattle.cim_model.specs.Stands.{Stands}
use Rattle.cim_model.specs.Links.{network}
use Rattle.graph_pages.specs.Walks.{wiring}
use Rattle.topology.proofs.Agreement.{point_reached_too, reached_too}
use Rattle.topology.proofs.Entries.{IsGraphOf}
use Rattle.topology.proofs.Follow.{graph_follows, network_follows}
use Rattle.topology.proofs.laws.walks_are_reach.Goals as goal

pub returns : goal.returns
returns c = record {
  points = λ m o g faultless stands entries x asked a.
      let of_network = graph_of m o g faultless stands entries in
      (point_reached_too (wiring g) (network m o) x asked a (graph_follows m o g of_network), point_reached_too (network m o) (wiring g) x asked a (network_follows m o g of_network));
  equipment = λ m o g faultless stands entries x asked y p.
      let of_network = graph_of m o g faultless stands entries in
      (reached_too (wiring g) (network m o) x asked y p (graph_follows m o g of_network), reached_too (network m o) (wiring g) x asked y p (network_follows m o g of_network));
}
  where
    graph_of : (m : List Statement) (o : Overlay) (g : GraphView) → IsFaultless m → Stands m o → IsMap m o g → IsGraphOf m o g
    graph_of m o g faultless stands entries = record {
      owners = λ t. c.what_is_live.ensures.owners m o t faultless stands;
      places = λ place t. c.what_is_live.ensures.places m o place t faultless stands;
      terminals = λ x t. c.what_is_live.ensures.terminals m o x t;
      segments = λ x y. c.what_is_live.ensures.segments m o x y faultless stands;
      lines = λ x. c.what_is_live.ensures.lines m o x faultless stands;
      marks = λ x id divides. c.what_is_live.ensures.marks m o x id divides faultless stands;
      apart = c.terms_are_compared.ensures.equal;
      lists = λ x sections. c.lines_list_terminals_at_spots.ensures m o x sections;
      entries = entries;
    }
