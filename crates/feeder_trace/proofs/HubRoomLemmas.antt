-- That numbered places and sections keep the memory that they need.
use Rattle.std.proofs.Common.{◌≡◌, ◌+◌, ◌<◌, ◌≤◌, ◌&&◌, ◌||◌, not, get_or, set, ℕ, Bool, true, false, cond, List, [], ◌∷◌, ◌++◌, length, None, position, Contains, IsTrue, refl, sym, ap, ◌∙◌, subst, ⊎_elim, arith, true≢false}
use Rattle.std.specs.List.{IsDistinct, list_any}
use Rattle.std.specs.Vec.{vec_capacity}
use Rattle.std.proofs.lemmas.List.{length_push}
use Rattle.std.proofs.lemmas.Option.{slice_get_read, slice_get_within}
use Rattle.std.proofs.lemmas.Iterator.Adapters.{position_from-zero}
use Rattle.std.proofs.lemmas.List.Elements.{Contains-push_cases}
use Rattle.std.proofs.lemmas.Map.Keys.{IsDistinct-push}
use Rattle.indexmap.specs.IndexSet.{insert_key, spare}
use Rattle.plain_laws.proofs.Options.{position_none}
use Rattle.plain_laws.proofs.Tests.{any_among, any_same}
use Rattle.graph_pages.specs.Graph.{GraphView}
use Rattle.graph_pages.specs.Size.{listed_hubs}
use Rattle.cim_model.specs.Phases.{no_phases}
use Rattle.cim_words.specs.Phases.{has_phase}
use Rattle.cim_words.specs.declared.phases.Phase.{Phase}
use Rattle.cim_words.specs.declared.phases.PhaseSet.{PhaseSet}
use Rattle.feeder_trace.specs.Hubs.{AreMarked, HasNumber, HubsView, IsHub, Numbers, Visits, same_hub, view_of}
use Rattle.feeder_trace.specs.declared.hub.Hub.{Hub}
use Rattle.feeder_trace.specs.declared.hubs.Hubs.TheInside.{Inside}
use Rattle.feeder_trace.proofs.PhaseLemmas.{no_phase}
use Rattle.feeder_trace.proofs.HubLemmas.{goes_over, hub_laws, visits_after}
use Rattle.feeder_trace.proofs.PushLemmas.{get_cases, get_left, position_left, position_last, position_cases}
use Rattle.feeder_trace.proofs.SizeLemmas.{hubs_within}

-- one gets the next number, and is not visited yet
pub enters_hub : (hub : Hub) (v : HubsView) → position (same_hub hub) v.hubs ≡ None → length v.visited ≡ length v.hubs
    → Numbers hub (length v.hubs) v (record { graph = v.graph; hubs = v.hubs ++ hub ∷ []; visited = v.visited ++ no_phases ∷ [] })
enters_hub hub v none same = record {
  same_graph = refl;
  number = position_last (same_hub hub) v.hubs hub none (hub_laws.refl hub);
  within = omega (arith, same, length_push v.visited no_phases);
  kept = λ other p (i, at, (s, read, holds)). (i, position_left (same_hub other) v.hubs hub i at, (s, get_left v.visited no_phases i s read, holds));
  only = λ other p (i, at, (s, read, holds)). ⊎_elim
      (λ was. ⊎_elim
      (λ there. (i, there, (s, was, holds)))
      (λ last. let within = slice_get_within v.visited i s was in absurd (omega (arith, within, last, same)))
      (position_cases (same_hub other) v.hubs hub i at))
      (λ last. absurd (no_phase p (subst (λ (q : PhaseSet). IsTrue (has_phase q p)) (sym last.1) holds)))
      (get_cases v.visited no_phases i s read);
}

-- one that has no number gets the next one
module _ (s : Inside) (marked : AreMarked s) (v : HubsView) (seen : view_of s ≡ v) (hub : Hub) (is : IsHub v.graph hub) (absent : position (same_hub hub) v.hubs ≡ None) where
  none : position (same_hub hub) s.hubs.keys ≡ None
  none = subst (λ (u : HubsView). position (same_hub hub) u.hubs ≡ None) (sym seen) absent

  not_among : (b : Bool) → list_any (same_hub hub) s.hubs.keys ≡ b → b ≡ false
  not_among false any = refl
  not_among true any =
      let (found, stands, passes) = any_among (same_hub hub) s.hubs.keys any in
      absurd (true≢false (sym passes ∙ position_none (same_hub hub) 0 s.hubs.keys found (sym (position_from-zero (same_hub hub) s.hubs.keys) ∙ none) stands))

  -- it is put last
  pub put_last : (eq : Hub → Hub → Bool) → ((h k : Hub) → eq h k ≡ same_hub h k) → insert_key eq s.hubs.keys hub ≡ s.hubs.keys ++ hub ∷ []
  put_last eq agrees =
      let new : list_any (eq hub) s.hubs.keys ≡ false = any_same (eq hub) (same_hub hub) (agrees hub) s.hubs.keys ∙ not_among (list_any (same_hub hub) s.hubs.keys) refl in
      ap (λ (b : Bool). cond b s.hubs.keys (s.hubs.keys ++ hub ∷ [])) new

  once_more : IsDistinct same_hub (s.hubs.keys ++ hub ∷ [])
  once_more = IsDistinct-push hub_laws s.hubs.keys hub marked.once (not_among (list_any (same_hub hub) s.hubs.keys) refl)

  of_graph_more : (other : Hub) → Contains (s.hubs.keys ++ hub ∷ []) other → IsHub s.graph other
  of_graph_more other h = ⊎_elim (marked.of_graph other) (λ same. subst (IsHub s.graph) same (subst (λ (u : HubsView). IsHub u.graph hub) (sym seen) is)) (Contains-push_cases s.hubs.keys hub other h)

  pub room_to_number : length s.hubs.keys < s.most
  room_to_number =
      let few = hubs_within s.graph (s.hubs.keys ++ hub ∷ []) once_more of_graph_more in
      omega (arith, few, length_push s.hubs.keys hub, marked.enough)

  pub hubs_more : (new : Inside) → new.graph ≡ s.graph → new.most ≡ s.most → new.hubs.keys ≡ s.hubs.keys ++ hub ∷ [] → spare s.hubs ≤ spare new.hubs + 1 → new.visited.items ≡ s.visited.items ++ no_phases ∷ [] → vec_capacity s.visited ≤ vec_capacity new.visited → AreMarked new
  hubs_more new same most grown places pushed roomy =
      let longer = ap length grown ∙ length_push s.hubs.keys hub in
      record {
        once = rw grown once_more;
        of_graph = λ other h. subst (λ (g : GraphView). IsHub g other) (sym same) (of_graph_more other (subst (λ (hs : List Hub). Contains hs other) grown h));
        same_length = omega (arith, longer, ap length pushed, length_push s.visited.items no_phases, marked.same_length);
        enough = subst (λ (g : GraphView). listed_hubs g ≤ new.most) (sym same) (omega (arith, most, marked.enough));
        places = omega (arith, most, longer, places, marked.places);
        visited_room = omega (arith, most, roomy, marked.visited_room);
      }

  pub numbered_next : (i : ℕ) (keys : List Hub) (visited : List PhaseSet) → i ≡ length s.hubs.keys → keys ≡ s.hubs.keys ++ hub ∷ [] → visited ≡ s.visited.items ++ no_phases ∷ [] → Numbers hub i v (record { graph = s.graph; hubs = keys; visited = visited })
  numbered_next i keys visited next grown pushed =
      subst (λ (u : HubsView). Numbers hub i u (record { graph = s.graph; hubs = keys; visited = visited })) seen
      (rw next (rw grown (rw pushed (enters_hub hub (view_of s) none marked.same_length))))

-- one that is numbered is visited in what is left
pub visit_numbered : (s : Inside) (a v : HubsView) → view_of s ≡ v → (hub : Hub) (phases left before joined : PhaseSet) (i : ℕ) → Numbers hub i a v → before ≡ get_or s.visited.items i before → ((p : Phase) → has_phase left p ≡ (has_phase phases p && not (has_phase before p))) → ((p : Phase) → has_phase joined p ≡ (has_phase before p || has_phase left p))
    → Visits hub phases left a (record { graph = s.graph; hubs = s.hubs.keys; visited = set s.visited.items i joined })
visit_numbered s a v seen hub phases left before joined i numbers read leaves joins =
    let later : HubsView = record { graph = s.graph; hubs = s.hubs.keys; visited = set s.visited.items i joined } in
    let within : i < length s.visited.items = subst (λ (u : HubsView). i < length u.visited) (sym seen) numbers.within in
    let at : HasNumber (view_of s) hub i = subst (λ (u : HubsView). HasNumber u hub i) (sym seen) numbers.number in
    visits_after hub i phases left a v later numbers
    (subst (λ (u : HubsView). Visits hub phases left u later) seen
    (goes_over hub phases left before (view_of s) i at (slice_get_read s.visited.items (length s.visited.items) i before refl within read) leaves later.visited (record { joined = joined; joins = joins; is = refl })))
