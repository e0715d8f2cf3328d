-- Points are joined in the graph of a live network exactly where they are joined in the network.
use Rattle.std.proofs.Common.{◌≡◌, ◌↔◌, ◌⊎◌, ℕ, inl, inr, List, map, Bool, true, false, cond, IsTrue, Option, Some, None, Contains, refl, ap, sym, ◌∙◌, subst}
use Rattle.std.specs.List.{filter_map}
use Rattle.link_rules.proofs.LineTerms.{spokes_at_terms}
use Rattle.cim_model.specs.Links as network
use Rattle.cim_model.specs.Links.{lets_through}
use Rattle.cim_model.specs.Live.{Conduction, PassesAll, PassesAlong, PassesNothing, PassesSwitched, PassesTransformed, conduction, is_open, is_place, is_term, term_phases, terms_of}
use Rattle.cim_model.specs.Phases.{Transforms, no_phases}
use Rattle.cim_model.specs.Values.{as_id}
use Rattle.cim_words.specs.Phases.{has_phase}
use Rattle.cim_words.specs.declared.identifier.Id.{Id}
use Rattle.cim_words.specs.declared.phases.Phase.{Phase}
use Rattle.cim_words.specs.declared.phases.Phase.TheVariants as phase
use Rattle.cim_words.specs.declared.phases.PhaseSet.{PhaseSet}
use Rattle.cim_words.specs.declared.statement.Statement.{Statement}
use Rattle.graph_pages.specs.Graph.{GraphView, members_of}
use Rattle.graph_pages.specs.Walks as graph
use Rattle.graph_pages.specs.declared.star.Pass.{Pass}
use Rattle.graph_pages.specs.declared.star.Spoke.{Spoke}
use Rattle.graph_pages.specs.declared.star.Star.{Star}
use Rattle.link_rules.specs.Inputs.{IsPassBy, IsStar, inputs}
use Rattle.link_rules.specs.Map.{AreMembers, IsEntry}
use Rattle.room_words.specs.declared.anchor.Anchor.{Anchor}
use Rattle.room_words.specs.declared.overlay.Overlay.{Overlay}
use Rattle.room_words.specs.declared.term.Point.{Point}
use Rattle.room_words.specs.declared.term.Term.{Term}
use Rattle.topology.proofs.Entries.{IsGraphOf, owner_star, place_is, star_found}
use Rattle.topology.proofs.Lines.{line_along, line_at_is}
use Rattle.topology.proofs.Spots.{section_listed, spot_of, spot_term_is, spots_of, term_along, term_listed}

-- ---- a point is at a terminal

no_phase : (p : Phase) → has_phase no_phases p ≡ true → ⊥
no_phase phase.A held = cc
no_phase phase.B held = cc
no_phase phase.C held = cc
no_phase phase.N held = cc
no_phase phase.S1 held = cc
no_phase phase.S2 held = cc

term_if : (b : Bool) (set : PhaseSet) (p : Phase) → has_phase (cond b set no_phases) p ≡ true → b ≡ true
term_if true set p held = refl
term_if false set p held = absurd (no_phase p held)

pub point_term : (m : List Statement) (o : Overlay) (a : Point) → IsTrue (has_phase (term_phases m o a.term) a.phase) → is_term m o a.term ≡ true
point_term m o a point = term_if (is_term m o a.term) _ a.phase point

-- ---- at a place

place_members : (m : List Statement) (o : Overlay) (place : Anchor) (found : Option (List Term)) → IsEntry m o place found → is_place m o place ≡ true → (members : List Term) × (found ≡ Some members) × AreMembers m o place members
place_members m o place None entry is = absurd (let both : true ≡ false = sym is ∙ entry in cc)
place_members m o place (Some members) entry is = (members, refl, entry.1)

at_place_in_graph : (m : List Statement) (o : Overlay) (g : GraphView) (a b : Point) → IsGraphOf m o g → network.AtPlace m o a b → graph.AtPlace g a b
at_place_in_graph m o g a b of_network (place, here, there, same) =
    let are = place_members m o place (members_of g place) (of_network.entries.places place) (of_network.places place a.term here) in
    (place, place_is m o g a.term of_network ∙ here, are.0, are.1, (are.2.terminals b.term).1 there, same)

at_place_in_network : (m : List Statement) (o : Overlay) (g : GraphView) (a b : Point) → IsGraphOf m o g → graph.AtPlace g a b → network.AtPlace m o a b
at_place_in_network m o g a b of_network (place, here, members, is, there, same) =
    let entry : IsEntry m o place (Some members) = subst (IsEntry m o place) is (of_network.entries.places place) in
    (place, sym (place_is m o g a.term of_network) ∙ here, (entry.1.terminals b.term).0 there, same)

-- ---- in a section of a segment

in_section_in_graph : (m : List Statement) (o : Overlay) (g : GraphView) (a b : Point) → IsGraphOf m o g → network.InSection m o a b → graph.InSection g a b
in_section_in_graph m o g a b of_network (x, along, (s, v, stands, other, share), held, same) =
    let term = (spot_term_is m o g x a.term s of_network stands).0 in
    let line = line_along m o g x a.term of_network along term (term_along m o g x a.term s of_network stands) in
    let together = (line.2.are.joined s v stands.on other.on).1 share in (
      line.0,
      line.1,
      filter_map _ together.0,
      section_listed m o x line.0 together.0 line.2 together.1,
      term_listed m o x a.term s together.0 together.2 stands,
      term_listed m o x b.term v together.0 together.3 other,
      subst (λ (set : PhaseSet). IsTrue (has_phase set a.phase)) (sym line.2.phases) held,
      same,
    )

in_section_in_network : (m : List Statement) (o : Overlay) (g : GraphView) (a b : Point) → IsGraphOf m o g → graph.InSection g a b → network.InSection m o a b
in_section_in_network m o g a b of_network (line, at, section, there, listed, other, held, same) =
    let x = line_at_is m o g a.term line of_network at in
    let spots = spots_of m o x.0 line section x.1 there in
    let s = spot_of m o x.0 a.term line x.1 spots.0 spots.1 (subst (λ (terms : List Term). Contains terms a.term) (sym spots.2) listed) in
    let v = spot_of m o x.0 b.term line x.1 spots.0 spots.1 (subst (λ (terms : List Term). Contains terms b.term) (sym spots.2) other) in
    let share = (x.1.are.joined s.0 v.0 s.2.on v.2.on).0 (spots.0, spots.1, s.1, v.1) in
    (x.0, x.1.along, (s.0, v.0, s.2, v.2, share), subst (λ (set : PhaseSet). IsTrue (has_phase set a.phase)) x.1.phases held, same)

-- ---- through an owner

-- how current passes from point to point of an owner that conducts in a way
abbrev pub PassesBy : Conduction → Bool → Point → Point → Type 0
PassesBy PassesNothing open_now a b = ⊥
PassesBy PassesAlong open_now a b = ⊥
PassesBy PassesSwitched open_now a b = (a.term ≡ b.term → ⊥) × IsTrue (lets_through open_now a.phase) × (a.phase ≡ b.phase)
PassesBy PassesAll open_now a b = a.phase ≡ b.phase
PassesBy PassesTransformed open_now a b = (a.term ≡ b.term → ⊥) × Transforms a.phase b.phase

passes_so : (m : List Statement) (o : Overlay) (x : ℕ) (how : Conduction) (pass : Pass) (a b : Point) → IsPassBy how (inputs m o x) pass → graph.Passes pass a b ↔ PassesBy how (is_open m o x) a b
passes_so m o x PassesNothing pass a b is = subst (λ (pass : Pass). graph.Passes pass a b ↔ ⊥) (sym is) ((λ h. h), (λ h. h))
passes_so m o x PassesAlong pass a b (sections, are, is) = subst (λ (pass : Pass). graph.Passes pass a b ↔ ⊥) (sym is) ((λ h. h), (λ h. h))
passes_so m o x PassesSwitched pass a b is = subst (λ (pass : Pass). graph.Passes pass a b ↔ PassesBy PassesSwitched (is_open m o x) a b) (sym is) ((λ h. h), (λ h. h))
passes_so m o x PassesAll pass a b is = subst (λ (pass : Pass). graph.Passes pass a b ↔ PassesBy PassesAll (is_open m o x) a b) (sym is) ((λ h. h), (λ h. h))
passes_so m o x PassesTransformed pass a b is = subst (λ (pass : Pass). graph.Passes pass a b ↔ PassesBy PassesTransformed (is_open m o x) a b) (sym is) ((λ h. h), (λ h. h))

Through : List Statement → Overlay → Point → Point → Type 0
Through m o a b = network.ThroughSwitch m o a b ⊎ network.ThroughPassing m o a b ⊎ network.ThroughTransformer m o a b

through_by : (m : List Statement) (o : Overlay) (a b : Point) (how : Conduction) → a.term.owner ≡ b.term.owner → conduction m o a.term.owner.number ≡ how → PassesBy how (is_open m o a.term.owner.number) a b → Through m o a b
unfolding Through
through_by m o a b PassesNothing same is passes = absurd passes
through_by m o a b PassesAlong same is passes = absurd passes
through_by m o a b PassesSwitched same is passes = inl ((same, is), passes.0, passes.1, passes.2)
through_by m o a b PassesAll same is passes = inr (inl ((same, is), passes))
through_by m o a b PassesTransformed same is passes = inr (inr ((same, is), passes.0, passes.1))

by_through : (m : List Statement) (o : Overlay) (a b : Point) → Through m o a b → (a.term.owner ≡ b.term.owner) × PassesBy (conduction m o a.term.owner.number) (is_open m o a.term.owner.number) a b
unfolding Through
by_through m o a b (inl ((same, is), apart, through, phase)) = (same, subst (λ (how : Conduction). PassesBy how (is_open m o a.term.owner.number) a b) (sym is) (apart, through, phase))
by_through m o a b (inr (inl ((same, is), passes))) = (same, subst (λ (how : Conduction). PassesBy how (is_open m o a.term.owner.number) a b) (sym is) passes)
by_through m o a b (inr (inr ((same, is), apart, passes))) = (same, subst (λ (how : Conduction). PassesBy how (is_open m o a.term.owner.number) a b) (sym is) (apart, passes))

-- a star lists just the terminals of its owner
pub star_terms : (m : List Statement) (o : Overlay) (x : ℕ) (star : Star) → IsStar x (inputs m o x) star → map (λ (s : Spoke). s.term) star.spokes ≡ terms_of m o x
star_terms m o x star is = ap (map (λ (s : Spoke). s.term)) is.spokes ∙ spokes_at_terms m o (terms_of m o x)

pub star_lists : (m : List Statement) (o : Overlay) (g : GraphView) (x : ℕ) (star : Star) (t : Term) → IsGraphOf m o g → IsStar x (inputs m o x) star → graph.HasSpoke star t ↔ ((is_term m o t ≡ true) × (t.owner.number ≡ x))
star_lists m o g x star t of_network is = subst (λ (terms : List Term). Contains terms t ↔ ((is_term m o t ≡ true) × (t.owner.number ≡ x))) (sym (star_terms m o x star is)) (of_network.terminals x t)

same_owner : (a b : Id) → b.number ≡ a.number → a ≡ b
same_owner a b same = ap as_id (sym same)

through_in_network : (m : List Statement) (o : Overlay) (g : GraphView) (a b : Point) → IsGraphOf m o g → graph.ThroughStar g a b → Through m o a b
through_in_network m o g a b of_network (star, at, has, passes) =
    let is = star_found m o g a.term.owner.number star of_network at in
    let owner = ((star_lists m o g a.term.owner.number star b.term of_network is).0 has).1 in
    through_by m o a b (conduction m o a.term.owner.number) (same_owner a.term.owner b.term.owner owner) refl ((passes_so m o a.term.owner.number (conduction m o a.term.owner.number) star.pass a b is.pass).0 passes)

through_in_graph : (m : List Statement) (o : Overlay) (g : GraphView) (a b : Point) → IsGraphOf m o g → is_term m o a.term ≡ true → is_term m o b.term ≡ true → Through m o a b → graph.ThroughStar g a b
through_in_graph m o g a b of_network term other through =
    let by = by_through m o a b through in
    let here = owner_star m o g a.term of_network term in (
      here.star,
      here.found,
      (star_lists m o g a.term.owner.number here.star b.term of_network here.is).1 (other, ap (λ (id : Id). id.number) (sym by.0)),
      (passes_so m o a.term.owner.number (conduction m o a.term.owner.number) here.star.pass a b here.is.pass).1 by.1,
    )

-- ---- so points are joined alike

pub joined_in_graph : (m : List Statement) (o : Overlay) (g : GraphView) (a b : Point) → IsGraphOf m o g → is_term m o a.term ≡ true → is_term m o b.term ≡ true → network.Joined m o a b → graph.Joined g a b
unfolding Through
joined_in_graph m o g a b of_network term other (inl at) = inl (at_place_in_graph m o g a b of_network at)
joined_in_graph m o g a b of_network term other (inr (inl along)) = inr (inl (in_section_in_graph m o g a b of_network along))
joined_in_graph m o g a b of_network term other (inr (inr through)) = inr (inr (through_in_graph m o g a b of_network term other through))

pub joined_in_network : (m : List Statement) (o : Overlay) (g : GraphView) (a b : Point) → IsGraphOf m o g → graph.Joined g a b → network.Joined m o a b
unfolding Through
joined_in_network m o g a b of_network (inl at) = inl (at_place_in_network m o g a b of_network at)
joined_in_network m o g a b of_network (inr (inl along)) = inr (inl (in_section_in_network m o g a b of_network along))
joined_in_network m o g a b of_network (inr (inr through)) = inr (inr (through_in_network m o g a b of_network through))
