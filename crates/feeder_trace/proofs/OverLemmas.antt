-- Going over places and sections once a phase.
use Rattle.std.proofs.Common.{◌≡◌, ◌↔◌, ◌⊎◌, ℕ, false, List, Some, None, slice_get, get_or, length, ◌<◌, IsTrue, Contains, refl, sym, ap, ◌∙◌, subst, inl, inr, ⊎_elim, true≢false}
use Rattle.std.proofs.lemmas.Option.{same_Some, slice_get-get_or}
use Rattle.cim_words.specs.Phases.{has_phase}
use Rattle.cim_words.specs.declared.identifier.Id.{Id}
use Rattle.cim_words.specs.declared.phases.Phase.{Phase}
use Rattle.cim_words.specs.declared.phases.PhaseSet.{PhaseSet}
use Rattle.graph_pages.specs.Graph.{GraphView, members_of}
use Rattle.graph_pages.specs.Walks.{Line, line_of, place_at}
use Rattle.room_words.specs.declared.term.Point.{Point}
use Rattle.room_words.specs.declared.term.Term.{Term}
use Rattle.room_words.specs.declared.anchor.Anchor.{Anchor}
use Rattle.feeder_trace.specs.Hubs.{HubsView, Visits, IsVisited, StandsIn}
use Rattle.feeder_trace.specs.Numbering.{IsOwn}
use Rattle.feeder_trace.specs.Spread.{AtHub, IsOver, AmongMembers, AtPlaceOf}
use Rattle.feeder_trace.specs.Search.{SearchView, IsMarked, IsPopped, IsSet, MarksAll}
use Rattle.feeder_trace.specs.declared.hub.Hub.{Hub}
use Rattle.feeder_trace.specs.declared.hub.Hub.TheVariants.{Place, Section}
use Rattle.feeder_trace.proofs.MarkLemmas.{marks_nothing, marks_as}

-- what may be marked beyond a step is marked already
marks_rest : (may may' : Point → Type 0) (a b : SearchView) → ((x : Point) → may x → may' x) → ((x : Point) → may' x → IsOwn a.graph x → may x ⊎ IsMarked a x) → MarksAll may a b → MarksAll may' a b
marks_rest may may' a b to from m = record {
  same_graph = m.same_graph;
  same_most = m.same_most;
  marked = λ x h own. ⊎_elim (λ l. m.marked x l own) (λ old. m.kept x old) (from x h own);
  kept = m.kept;
  only = λ x h. ⊎_elim inl (λ new. inr (to x new.0, new.1, new.2)) (m.only x h);
  waits = m.waits;
  waits_only = m.waits_only;
  work = m.work;
}

-- nothing was visited, and more is marked
pub over_begins : (g : GraphView) (hubs : HubsView) (v : SearchView) → hubs.graph ≡ g → ((hub : Hub) (p : Phase) → IsVisited hubs hub p → ⊥) → IsOver g hubs v
over_begins g hubs v same none = record { same_graph = same; marked = λ hub a visited stands own. absurd (none hub a.phase visited) }

pub over_kept : (g : GraphView) (hubs : HubsView) (may : Point → Type 0) (a b : SearchView) → IsOver g hubs a → MarksAll may a b → IsOver g hubs b
over_kept g hubs may a b over m = record {
  same_graph = over.same_graph;
  marked = λ hub x visited stands own. m.kept x (over.marked hub x visited stands (subst (λ h. IsOwn h x) m.same_graph own));
}

pub over_popped : (g : GraphView) (hubs : HubsView) (next : Term × PhaseSet) (a b : SearchView) → IsOver g hubs a → IsPopped next a b → IsOver g hubs b
over_popped g hubs next a b over popped = record {
  same_graph = over.same_graph;
  marked = λ hub x visited stands own.
      let (i, at, set) = over.marked hub x visited stands (subst (λ h. IsOwn h x) popped.same_graph own) in (
        i,
        (at.0, ap (λ (ts : List (Term × PhaseSet)). slice_get ts i) popped.same_terminals ∙ at.1),
        subst (λ (sets : List PhaseSet). IsSet sets i x.phase) (sym popped.same_reached) set,
      );
}

-- all who stand where was visited are marked
module _ (g : GraphView) (old new : HubsView) (hub : Hub) (phases left : PhaseSet) (a b : SearchView) (over : IsOver g old a) (went : Visits hub phases left old new) (m : MarksAll (AtHub g hub left) a b) where
  pub over_more : IsOver g new b
  over_more = record {
    same_graph = went.same_graph ∙ over.same_graph;
    marked = λ other x visited stands own.
        let own_a = subst (λ h. IsOwn h x) m.same_graph own in
        ⊎_elim
        (λ before. m.kept x (over.marked other x before stands own_a))
        (λ now. m.marked x (subst (λ (h : Hub). StandsIn g h x.term) now.0 stands, now.1) own_a)
        (went.only other x.phase visited);
  }

  pub over_marks : MarksAll (AtHub g hub phases) a b
  over_marks =
      marks_rest (AtHub g hub left) (AtHub g hub phases) a b
      (λ x h. (h.0, went.asked x.phase h.1))
      (λ x h own. ⊎_elim (λ l. inl (h.0, l)) (λ visited. inr (over.marked hub x visited h.0 own)) (went.rest x.phase h.1))
      m

-- nothing is left to be visited
pub hub_nothing : (g : GraphView) (hub : Hub) (left : PhaseSet) (v : SearchView) → ((p : Phase) → has_phase left p ≡ false) → MarksAll (AtHub g hub left) v v
hub_nothing g hub left v none = marks_nothing (AtHub g hub left) v (λ x h own. absurd (true≢false (sym h.1 ∙ none x.phase)))

-- a place or section of which the terminals are given
module _ (g : GraphView) (hub : Hub) (terms : List Term) (stands : (t : Term) → StandsIn g hub t ↔ Contains terms t) where
  pub among_hub : (phases : PhaseSet) (a b : SearchView) → MarksAll (AmongMembers terms phases) a b → MarksAll (AtHub g hub phases) a b
  among_hub phases a b = marks_as (AmongMembers terms phases) (AtHub g hub phases) a b (λ x h. ((stands x.term).1 h.0, h.1)) (λ x h own. ((stands x.term).0 h.0, h.1))

  hub_among : (phases : PhaseSet) (a b : SearchView) → MarksAll (AtHub g hub phases) a b → MarksAll (AmongMembers terms phases) a b
  hub_among phases a b = marks_as (AtHub g hub phases) (AmongMembers terms phases) a b (λ x h. ((stands x.term).0 h.0, h.1)) (λ x h own. ((stands x.term).1 h.0, h.1))

  -- it was visited in what was left
  module _ (old new : HubsView) (phases left : PhaseSet) (a b : SearchView) (over : IsOver g old a) (went : Visits hub phases left old new) (m : MarksAll (AtHub g hub left) a b) where
    pub hub_marks : MarksAll (AmongMembers terms phases) a b
    hub_marks = hub_among phases a b (over_marks g old new hub phases left a b over went m)

-- ---- places
pub place_stands : (g : GraphView) (place : Anchor) (members : List Term) → members_of g place ≡ Some members → (t : Term) → StandsIn g (Place place) t ↔ Contains members t
place_stands g place members has t = (λ h. subst (λ (ms : List Term). Contains ms t) (same_Some h.0 members (sym h.1 ∙ has)) h.2, λ h. (members, has, h))

pub place_empty : (g : GraphView) (place : Anchor) (phases : PhaseSet) (v : SearchView) → members_of g place ≡ None → MarksAll (AtHub g (Place place) phases) v v
place_empty g place phases v none =
    marks_nothing (AtHub g (Place place) phases) v (λ x h own. let no : ◌≡◌ (Some h.0.0) None = sym h.0.1 ∙ none in absurd cc)

pub place_of : (g : GraphView) (t : Term) (phases : PhaseSet) (place : Anchor) (a b : SearchView) → place_at g t ≡ Some place → MarksAll (AtHub g (Place place) phases) a b → MarksAll (AtPlaceOf g t phases) a b
place_of g t phases place a b at =
    marks_as (AtHub g (Place place) phases) (AtPlaceOf g t phases) a b
    (λ x h. (x.phase, h.1, (place, at, h.0.0, h.0.1, h.0.2, refl)))
    (λ x (p, asked, (other, at', members, has, stands, same)) own.
    let one : other ≡ place = same_Some other place (sym at' ∙ at) in
    ((members, ap (members_of g) (sym one) ∙ has, stands), subst (λ (q : Phase). IsTrue (has_phase phases q)) same asked))

-- ---- sections
pub section_stands : (g : GraphView) (segment : Id) (line : Line) (n : ℕ) (section : List Term) → line_of g segment.number ≡ Some line → slice_get line.sections n ≡ Some section → (t : Term) → StandsIn g (Section segment n) t ↔ Contains section t
section_stands g segment line n section at is t = (
  λ (other, at', terms, is', has).
      let one : other ≡ line = same_Some other line (sym at' ∙ at) in
      subst (λ (ts : List Term). Contains ts t) (same_Some terms section (sym is' ∙ ap (λ (l : Line). slice_get l.sections n) one ∙ is)) has,
  λ has. (line, at, section, is, has),
)

-- the section at an index
pub section_at : (sections items : List (List Term)) (n : ℕ) (section : List Term) → items ≡ sections → n < length items → section ≡ get_or items n section → slice_get sections n ≡ Some section
section_at sections items n section same within is =
    subst (λ (ss : List (List Term)). slice_get ss n ≡ Some section) same (slice_get-get_or items n section within ∙ ap Some (sym is))
