-- Places and sections by number.
use Rattle.std.proofs.Common.{◌≡◌, ◌||◌, ◌&&◌, not, ◌⊎◌, ℕ, Bool, true, false, List, ◌<◌, length, Some, slice_get, get_or, IsTrue, eqb, eq-eqb, eqb-true, refl, sym, ap, ap₂, ◌∙◌, subst, inl, inr, ⊎_elim, true≢false}
use Rattle.std.specs.Cmp.{IsEquivalence, both_ways}
use Rattle.std.proofs.lemmas.Bool.{and_from, and_parts, cases_eq, or_cases, or_left, or_right}
use Rattle.std.proofs.lemmas.List.Quantifiers.{position-Some}
use Rattle.std.proofs.lemmas.Option.{same_Some, slice_get_within}
use Rattle.cim_words.specs.Phases.{has_phase}
use Rattle.cim_words.specs.declared.phases.Phase.{Phase}
use Rattle.cim_words.specs.declared.phases.PhaseSet.{PhaseSet}
use Rattle.feeder_trace.specs.Hubs.{same_hub, HubsView, Numbers, Visits, HasNumber, IsVisited}
use Rattle.feeder_trace.specs.Visited.{Joins}
use Rattle.feeder_trace.specs.declared.hub.Hub.{Hub}
use Rattle.feeder_trace.specs.declared.hub.Hub.TheVariants.{Place, Section}
use Rattle.feeder_trace.proofs.MarkLemmas.{slice_get-set_same, slice_get-set_other}
use Rattle.cim_words.proofs.Statements.{same_id}
use Rattle.room_words.proofs.Compared.{anchor_exact, anchor_itself}

pub hub_exact : (h k : Hub) → same_hub h k ≡ true → h ≡ k
hub_exact (Place a) (Place b) e = ap Place (anchor_exact a b e)
hub_exact (Place a) (Section segment n) e = cc
hub_exact (Section segment n) (Place a) e = cc
hub_exact (Section segment n) (Section other m) e =
    let parts = and_parts (eqb segment.number other.number) (eqb n m) e in
    ap₂ Section (same_id segment other (eqb-true segment.number other.number parts.0)) (eqb-true n m parts.1)

hub_refl : (h : Hub) → same_hub h h ≡ true
hub_refl (Place place) = anchor_itself place
hub_refl (Section segment n) = and_from (eqb segment.number segment.number) (eqb n n) (eq-eqb segment.number segment.number refl) (eq-eqb n n refl)

hub_flips : (h k : Hub) → same_hub h k ≡ true → same_hub k h ≡ true
hub_flips h k e = subst (λ (l : Hub). same_hub l h ≡ true) (hub_exact h k e) (hub_refl h)

pub hub_laws : IsEquivalence same_hub
hub_laws = record {
  refl = hub_refl;
  symm = λ h k. both_ways (same_hub h k) (same_hub k h) (hub_flips h k) (hub_flips k h);
  congr = λ h k l e. ap (λ (m : Hub). same_hub m l) (hub_exact h k e);
}

-- two that have one number are one
one_number : (v : HubsView) (h k : Hub) (i : ℕ) → HasNumber v h i → HasNumber v k i → h ≡ k
one_number v h k i at_h at_k =
    hub_exact h (get_or v.hubs i h) (position-Some (same_hub h) v.hubs i h at_h).1
    ∙ sym (hub_exact k (get_or v.hubs i h) (position-Some (same_hub k) v.hubs i h at_k).1)

-- what was visited in a phase is not visited in it again
left_is : (asked before left : Bool) → left ≡ (asked && not before) → left ≡ true → (asked ≡ true) × (before ≡ false)
left_is true true left e h = cc
left_is true false left e h = (refl, refl)
left_is false before left e h = cc

left_or : (asked before left : Bool) → left ≡ (asked && not before) → asked ≡ true → (left ≡ true) ⊎ (before ≡ true)
left_or true true left e h = inr refl
left_or true false left e h = inl e
left_or false before left e h = cc

module _ (hub : Hub) (phases left before : PhaseSet) (v : HubsView) (i : ℕ) (at : HasNumber v hub i) (read : slice_get v.visited i ≡ Some before) (leaves : (p : Phase) → has_phase left p ≡ (has_phase phases p && not (has_phase before p))) where
  was : (p : Phase) → IsVisited v hub p → has_phase before p ≡ true
  was p (j, at_j, (held, read_j, holds)) =
      let one : j ≡ i = same_Some j i (sym at_j ∙ at) in
      let same : held ≡ before = same_Some held before (sym read_j ∙ ap (slice_get v.visited) one ∙ read) in
      subst (λ (q : PhaseSet). has_phase q p ≡ true) same holds

  again : (p : Phase) → IsTrue (has_phase left p) → IsVisited v hub p → ⊥
  again p h visited = true≢false (sym (was p visited) ∙ (left_is (has_phase phases p) (has_phase before p) (has_phase left p) (leaves p) h).1)

  others : (p : Phase) → IsTrue (has_phase phases p) → IsTrue (has_phase left p) ⊎ IsVisited v hub p
  others p h = ⊎_elim inl (λ b. inr (i, at, (before, read, b))) (left_or (has_phase phases p) (has_phase before p) (has_phase left p) (leaves p) h)

  -- something is left, and noted
  pub goes_over : (visited : List PhaseSet) → Joins i before left v.visited visited → Visits hub phases left v (record { graph = v.graph; hubs = v.hubs; visited = visited })
  goes_over visited joins =
      let within : i < length v.visited = slice_get_within v.visited i before read in
      let there : slice_get visited i ≡ Some joins.joined = ap (λ (sets : List PhaseSet). slice_get sets i) joins.is ∙ slice_get-set_same v.visited i joins.joined within in
      let elsewhere : (j : ℕ) → (j ≡ i → ⊥) → slice_get visited j ≡ slice_get v.visited j = λ j apart. ap (λ (sets : List PhaseSet). slice_get sets j) joins.is ∙ slice_get-set_other v.visited i j joins.joined apart in
      record {
        same_graph = refl;
        asked = λ p h. (left_is (has_phase phases p) (has_phase before p) (has_phase left p) (leaves p) h).0;
        fresh = again;
        rest = others;
        noted = λ p h. (i, at, (joins.joined, there, joins.joins p ∙ or_right (has_phase before p) (has_phase left p) h));
        kept = λ other p (j, at_j, (held, read_j, holds)). ⊎_elim
            (λ same.
            let is : held ≡ before = same_Some held before (sym read_j ∙ ap (slice_get v.visited) same ∙ read) in
            (j, at_j, (joins.joined, ap (slice_get visited) same ∙ there, joins.joins p ∙ or_left (has_phase before p) (has_phase left p) (subst (λ (q : PhaseSet). has_phase q p ≡ true) is holds))))
            (λ apart. (j, at_j, (held, elsewhere j apart ∙ read_j, holds)))
            (cases_eq j i);
        only = λ other p (j, at_j, (held, read_j, holds)). ⊎_elim
            (λ same.
            let is : held ≡ joins.joined = same_Some held joins.joined (sym read_j ∙ ap (slice_get visited) same ∙ there) in
            let both : (has_phase before p || has_phase left p) ≡ true = sym (joins.joins p) ∙ subst (λ (q : PhaseSet). has_phase q p ≡ true) is holds in
            let at_i : HasNumber v other i = subst (λ n. HasNumber v other n) same at_j in
            ⊎_elim
            (λ b. inl (i, at_i, (before, read, b)))
            (λ l. inr (one_number v other hub i at_i at, l))
            (or_cases (has_phase before p) (has_phase left p) both))
            (λ apart. inl (j, at_j, (held, sym (elsewhere j apart) ∙ read_j, holds)))
            (cases_eq j i);
      }

-- one is numbered, and then visited
pub visits_after : (hub : Hub) (i : ℕ) (phases left : PhaseSet) (a b c : HubsView) → Numbers hub i a b → Visits hub phases left b c → Visits hub phases left a c
visits_after hub i phases left a b c first then = record {
  same_graph = then.same_graph ∙ first.same_graph;
  asked = then.asked;
  fresh = λ p h visited. then.fresh p h (first.kept hub p visited);
  rest = λ p h. ⊎_elim inl (λ visited. inr (first.only hub p visited)) (then.rest p h);
  noted = then.noted;
  kept = λ other p visited. then.kept other p (first.kept other p visited);
  only = λ other p visited. ⊎_elim (λ before. inl (first.only other p before)) inr (then.only other p visited);
}
