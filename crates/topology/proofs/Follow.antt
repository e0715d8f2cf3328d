-- The wiring of the graph of a live network and the network's own say the same of points.
use Rattle.std.proofs.Common.{◌≡◌, ℕ, inl, inr, List, true, IsTrue, Option, Some, None, option_map, refl, ap, sym, ◌∙◌, subst}
use Rattle.cim_model.specs.Links as network
use Rattle.cim_model.specs.Links.{network}
use Rattle.cim_model.specs.Live.{is_term, stands_on}
use Rattle.cim_model.specs.Network.{segment_phases}
use Rattle.cim_model.specs.Reach.{IsPoint}
use Rattle.cim_model.specs.Values.{as_id}
use Rattle.cim_words.specs.Phases.{has_phase}
use Rattle.cim_words.specs.declared.identifier.Id.{Id}
use Rattle.cim_words.specs.declared.phases.PhaseSet.{PhaseSet}
use Rattle.cim_words.specs.declared.statement.Statement.{Statement}
use Rattle.graph_pages.specs.Graph.{GraphView}
use Rattle.graph_pages.specs.Walks as graph
use Rattle.graph_pages.specs.Walks.{wiring}
use Rattle.graph_pages.specs.declared.star.Star.{Star}
use Rattle.link_rules.specs.Inputs.{IsStar, inputs}
use Rattle.room_words.specs.declared.overlay.Overlay.{Overlay}
use Rattle.room_words.specs.declared.term.Point.{Point}
use Rattle.room_words.specs.declared.term.Term.{Term}
use Rattle.topology.proofs.Agreement.{Follows}
use Rattle.topology.proofs.Entries.{IsGraphOf, owner_star, star_found}
use Rattle.topology.proofs.Joined.{joined_in_graph, joined_in_network, point_term, star_lists}
use Rattle.topology.proofs.Lines.{line_of_segment, phases_are}

-- a point of the graph is at a terminal of the network
graph_point_term : (m : List Statement) (o : Overlay) (g : GraphView) (a : Point) → IsGraphOf m o g → IsPoint (wiring g) a → is_term m o a.term ≡ true
graph_point_term m o g a of_network point = point_term m o a (subst (λ (set : PhaseSet). IsTrue (has_phase set a.phase)) (phases_are m o g a.term of_network) point)

-- ---- where traces start

start_in_network : (m : List Statement) (o : Overlay) (g : GraphView) (x : ℕ) (t : Term) → IsGraphOf m o g → graph.StartsAt g x t → t.owner.number ≡ x
start_in_network m o g x t of_network (star, at, has) = ((star_lists m o g x star t of_network (star_found m o g x star of_network at)).0 has).1

start_in_graph : (m : List Statement) (o : Overlay) (g : GraphView) (x : ℕ) (t : Term) → IsGraphOf m o g → is_term m o t ≡ true → t.owner.number ≡ x → graph.StartsAt g x t
start_in_graph m o g x t of_network term owner =
    let here = owner_star m o g t of_network term in
    subst (λ (x : ℕ). graph.StartsAt g x t) owner (here.star, here.found, (star_lists m o g t.owner.number here.star t of_network here.is).1 (term, refl))

-- ---- for what terminals count

number_on : (found : Option ℕ) → option_map (λ (on : Id). on.number) (option_map as_id found) ≡ found
number_on None = refl
number_on (Some n) = refl

on_is : (m : List Statement) (o : Overlay) (x : ℕ) (star : Star) → IsStar x (inputs m o x) star → option_map (λ (on : Id). on.number) star.on ≡ stands_on m o x
on_is m o x star is = ap (option_map (λ (on : Id). on.number)) is.on ∙ number_on (stands_on m o x)

line_phases_are : (m : List Statement) (o : Overlay) (g : GraphView) (x y : ℕ) → IsGraphOf m o g → stands_on m o x ≡ Some y → graph.line_phases (graph.line_of g y) ≡ segment_phases m y
line_phases_are m o g x y of_network on =
    let line = line_of_segment m o g y of_network (of_network.segments y x on) in
    ap graph.line_phases line.1 ∙ line.2.phases

counts_in_network : (m : List Statement) (o : Overlay) (g : GraphView) (a : Point) (y : ℕ) → IsGraphOf m o g → graph.CountsFor g a.term y a.phase → network.CountsFor m o a.term y a.phase
counts_in_network m o g a y of_network (inl owner) = inl owner
counts_in_network m o g a y of_network (inr (star, at, on, held)) =
    let stands : stands_on m o a.term.owner.number ≡ Some y = sym (on_is m o a.term.owner.number star (star_found m o g a.term.owner.number star of_network at)) ∙ on in
    inr (stands, subst (λ (set : PhaseSet). IsTrue (has_phase set a.phase)) (line_phases_are m o g a.term.owner.number y of_network stands) held)

counts_in_graph : (m : List Statement) (o : Overlay) (g : GraphView) (a : Point) (y : ℕ) → IsGraphOf m o g → is_term m o a.term ≡ true → network.CountsFor m o a.term y a.phase → graph.CountsFor g a.term y a.phase
counts_in_graph m o g a y of_network term (inl owner) = inl owner
counts_in_graph m o g a y of_network term (inr (on, held)) =
    let here = owner_star m o g a.term of_network term in
    inr (here.star, here.found, on_is m o a.term.owner.number here.star here.is ∙ on, subst (λ (set : PhaseSet). IsTrue (has_phase set a.phase)) (sym (line_phases_are m o g a.term.owner.number y of_network on)) held)

-- ---- both ways

pub graph_follows : (m : List Statement) (o : Overlay) (g : GraphView) → IsGraphOf m o g → Follows (wiring g) (network m o)
graph_follows m o g of_network = record {
  phases = λ t. phases_are m o g t of_network;
  starts = λ x a point start. start_in_network m o g x a.term of_network start;
  joined = λ a b point other joined. joined_in_network m o g a b of_network joined;
  counts = λ a y point counts. counts_in_network m o g a y of_network counts;
}

pub network_follows : (m : List Statement) (o : Overlay) (g : GraphView) → IsGraphOf m o g → Follows (network m o) (wiring g)
network_follows m o g of_network = record {
  phases = λ t. sym (phases_are m o g t of_network);
  starts = λ x a point start. start_in_graph m o g x a.term of_network (point_term m o a point) start;
  joined = λ a b point other joined. joined_in_graph m o g a b of_network (point_term m o a point) (point_term m o b other) joined;
  counts = λ a y point counts. counts_in_graph m o g a y of_network (point_term m o a point) counts;
}
