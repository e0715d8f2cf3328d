-- A graph has no more terminals, places and sections to which a trace can come than it counts.
use Rattle.std.proofs.Common.{eqb, ◌≡◌, ◌+◌, ◌≤◌, ℕ, zero, suc, Bool, true, false, cond, List, [], ◌∷◌, ◌++◌, length, map, Option, Some, None, slice_get, sum_by, Contains, refl, sym, ap, ◌∙◌, subst, arith, length-append}
use Rattle.std.specs.List.{IsDistinct, flat_map}
use Rattle.std.specs.Map.{keys_of}
use Rattle.std.proofs.lemmas.List.{length-map}
use Rattle.std.proofs.lemmas.List.Concat.{length-flat_map}
use Rattle.std.proofs.lemmas.List.Elements.{Contains-append_left, Contains-append_right}
use Rattle.std.proofs.lemmas.List.Sums.{sum_by-cons}
use Rattle.std.proofs.lemmas.Map.Made.{length-le_from_is_member}
use Rattle.std.proofs.lemmas.Map.Views.{Contains-from_any, list_any-from_Contains}
use Rattle.std.proofs.lemmas.Option.{same_Some}
use Rattle.plain_laws.proofs.Members.{contains_first, contains_flat_map, contains_rest}
use Rattle.plain_laws.proofs.Options.{find_contains, some_none}
use Rattle.cim_words.proofs.Statements.{same_id}
use Rattle.cim_words.specs.PhaseNames.{and_then}
use Rattle.cim_words.specs.declared.identifier.Id.{Id}
use Rattle.cim_words.specs.declared.phases.PhaseSet.{PhaseSet}
use Rattle.graph_pages.specs.Graph.{GraphView, members_in, star_of}
use Rattle.graph_pages.specs.Size.{listed_hubs, listed_spokes, sections_in, sections_of, spokes_of}
use Rattle.graph_pages.specs.Walks.{Line, line_in}
use Rattle.graph_pages.specs.declared.star.Pass.{Pass}
use Rattle.graph_pages.specs.declared.star.Pass.TheVariants as pass
use Rattle.graph_pages.specs.declared.star.Spoke.{Spoke}
use Rattle.graph_pages.specs.declared.star.Star.{Star}
use Rattle.room_words.proofs.Compared.{anchor_exact, term_exact}
use Rattle.room_words.specs.Terms.{same_anchor}
use Rattle.room_words.specs.declared.anchor.Anchor.{Anchor}
use Rattle.room_words.specs.declared.term.Term.{Term}
use Rattle.feeder_trace.specs.Hubs.{IsHub, same_hub}
use Rattle.feeder_trace.specs.Numbering.{IsNumbering}
use Rattle.feeder_trace.specs.declared.hub.Hub.{Hub}
use Rattle.feeder_trace.specs.declared.hub.Hub.TheVariants.{Place, Section}
use Rattle.feeder_trace.proofs.HubLemmas.{hub_exact, hub_laws}
use Rattle.feeder_trace.proofs.NumberingLemmas.{entry_of, term_laws}
use Rattle.feeder_trace.proofs.RowLemmas.{own_number}

-- ---- terminals
abbrev spoke_terms : Star → List Term
spoke_terms star = map (λ (spoke : Spoke). spoke.term) star.spokes

spokes_counted : (stars : List Star) → sum_by (λ star. length (spoke_terms star)) stars ≡ sum_by spokes_of stars
spokes_counted [] = refl
spokes_counted (star ∷ stars) = omega (
  arith,
  sum_by-cons (λ star. length (spoke_terms star)) star stars,
  sum_by-cons spokes_of star stars,
  length-map star.spokes (λ (spoke : Spoke). spoke.term),
  spokes_counted stars,
)

pub numbering_within : (g : GraphView) (terminals : List (Term × PhaseSet)) → IsNumbering g terminals → length terminals ≤ listed_spokes g
numbering_within g terminals numbering =
    let all = flat_map spoke_terms g.stars in
    let among : (t : Term) → Contains (keys_of terminals) t → Contains all t = λ t h.
    let entry = entry_of terminals t h in
    let (star, at, stands) = numbering.listed t entry.0 entry.1 in
    contains_flat_map spoke_terms g.stars star t (find_contains (λ (star : Star). eqb star.id.number t.owner.number) g.stars star at) stands in
    let few = length-le_from_is_member term_laws (keys_of terminals) all numbering.once (λ q h. list_any-from_Contains term_laws q all (among q (Contains-from_any term_exact q (keys_of terminals) h))) in
    omega (
      arith,
      few,
      length-map terminals (λ (e : Term × PhaseSet). e.0),
      length-flat_map spoke_terms g.stars,
      spokes_counted g.stars,
    )

-- ---- places and sections
abbrev place_hubs : List (Anchor × List Term) → List Hub
place_hubs places = map (λ (entry : Anchor × List Term). Place entry.0) places

-- a place with members stands among the places
module _ (place : Anchor) (members : List Term) where
  place_at_first : (entry : Anchor × List Term) (places : List (Anchor × List Term)) (b : Bool) → same_anchor place entry.0 ≡ b → cond b (Some entry.1) (members_in places place) ≡ Some members
      → (members_in places place ≡ Some members → Contains (place_hubs places) (Place place)) → Contains (place_hubs (entry ∷ places)) (Place place)
  place_at_first entry places true is at rest =
      subst (λ (p : Anchor). Contains (place_hubs (entry ∷ places)) (Place p)) (sym (anchor_exact place entry.0 is)) (contains_first (Place entry.0) (place_hubs places))
  place_at_first entry places false is at rest = contains_rest (Place entry.0) (place_hubs places) (Place place) (rest at)

  place_listed : (places : List (Anchor × List Term)) → members_in places place ≡ Some members → Contains (place_hubs places) (Place place)
  place_listed [] at = absurd (some_none members (sym at))
  place_listed (entry ∷ places) at = place_at_first entry places (same_anchor place entry.0) refl at (place_listed places)

-- the sections of a line by their indices, the first of which is n
abbrev section_hubs : Id → ℕ → List (List Term) → List Hub
section_hubs segment n [] = []
section_hubs segment n (section ∷ sections) = Section segment n ∷ section_hubs segment (n + 1) sections

sections_counted : (segment : Id) (n : ℕ) (sections : List (List Term)) → length (section_hubs segment n sections) ≡ length sections
sections_counted segment n [] = refl
sections_counted segment n (section ∷ sections) = ap suc (sections_counted segment (n + 1) sections)

has_section : (segment : Id) (k n : ℕ) (sections : List (List Term)) (section : List Term) → slice_get sections n ≡ Some section → Contains (section_hubs segment k sections) (Section segment (k + n))
has_section segment k n [] section at = cc
has_section segment k zero (first ∷ sections) section at =
    let e : k + 0 ≡ k = omega arith in
    subst (λ n. Contains (section_hubs segment k (first ∷ sections)) (Section segment n)) (sym e) (contains_first (Section segment k) (section_hubs segment (k + 1) sections))
has_section segment k (suc n) (first ∷ sections) section at =
    let e : k + 1 + n ≡ k + suc n = omega arith in
    subst (λ n. Contains (section_hubs segment k (first ∷ sections)) (Section segment n)) e
    (contains_rest (Section segment k) (section_hubs segment (k + 1) sections) (Section segment (k + 1 + n)) (has_section segment (k + 1) n sections section at))

abbrev line_hubs : Id → Option Line → List Hub
line_hubs segment None = []
line_hubs segment (Some line) = section_hubs segment 0 line.sections

line_counted : (segment : Id) (way : Pass) → length (line_hubs segment (line_in way)) ≡ sections_in way
line_counted segment pass.Nothing = refl
line_counted segment pass.Same = refl
line_counted segment (pass.Switch is_open) = refl
line_counted segment pass.Transformer = refl
line_counted segment (pass.Line own sections) = sections_counted segment 0 sections

abbrev star_hubs : Star → List Hub
star_hubs star = line_hubs star.id (line_in star.pass)

stars_counted : (stars : List Star) → sum_by (λ star. length (star_hubs star)) stars ≡ sum_by sections_of stars
stars_counted [] = refl
stars_counted (star ∷ stars) = omega (
  arith,
  sum_by-cons (λ star. length (star_hubs star)) star stars,
  sum_by-cons sections_of star stars,
  line_counted star.id star.pass,
  stars_counted stars,
)

-- a section is one of its segment's star
module _ (g : GraphView) (segment : Id) (line : Line) (n : ℕ) (section : List Term) (at : slice_get line.sections n ≡ Some section) where
  section_star : (o : Option Star) → star_of g segment.number ≡ o → and_then o (λ (star : Star). line_in star.pass) ≡ Some line → Contains (flat_map star_hubs g.stars) (Section segment n)
  section_star None is found = cc
  section_star (Some star) is found =
      let own : star.id ≡ segment = same_id star.id segment (own_number g segment.number star is) in
      let e : 0 + n ≡ n = omega arith in
      let there : Contains (section_hubs segment 0 line.sections) (Section segment n) = subst (λ m. Contains (section_hubs segment 0 line.sections) (Section segment m)) e (has_section segment 0 n line.sections section at) in
      let here : Contains (line_hubs segment (line_in star.pass)) (Section segment n) = subst (λ (o : Option Line). Contains (line_hubs segment o) (Section segment n)) (sym found) there in
      contains_flat_map star_hubs g.stars star (Section segment n) (find_contains (λ (star : Star). eqb star.id.number segment.number) g.stars star is)
      (subst (λ (id : Id). Contains (line_hubs id (line_in star.pass)) (Section segment n)) (sym own) here)

abbrev graph_hubs : GraphView → List Hub
graph_hubs g = flat_map star_hubs g.stars ++ place_hubs g.places

hub_of_graph : (g : GraphView) (hub : Hub) → IsHub g hub → Contains (graph_hubs g) hub
hub_of_graph g (Place place) (members, at) = Contains-append_right (flat_map star_hubs g.stars) (place_hubs g.places) (Place place) (place_listed place members g.places at)
hub_of_graph g (Section segment n) (line, found, section, at) =
    Contains-append_left (flat_map star_hubs g.stars) (place_hubs g.places) (Section segment n) (section_star g segment line n section at (star_of g segment.number) refl found)

pub hubs_within : (g : GraphView) (hubs : List Hub) → IsDistinct same_hub hubs → ((hub : Hub) → Contains hubs hub → IsHub g hub) → length hubs ≤ listed_hubs g
hubs_within g hubs once of_graph =
    let few = length-le_from_is_member hub_laws hubs (graph_hubs g) once (λ q h. list_any-from_Contains hub_laws q (graph_hubs g) (hub_of_graph g q (of_graph q (Contains-from_any hub_exact q hubs h)))) in
    omega (
      arith,
      few,
      length-append (flat_map star_hubs g.stars) (place_hubs g.places),
      length-flat_map star_hubs g.stars,
      stars_counted g.stars,
      length-map g.places (λ (entry : Anchor × List Term). Place entry.0),
    )
