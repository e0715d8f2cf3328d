-- Numbered terminals with their phases.
use Rattle.std.proofs.Common.{IsTrue, ⊎_elim, find, is_some, ◌≡◌, ℕ, Bool, true, false, List, [], ◌∷◌, ◌++◌, Option, Some, None, slice_get, get_or, position, Contains, refl, sym, ap, ◌∙◌, subst, option_map}
use Rattle.std.specs.Cmp.{IsEquivalence}
use Rattle.std.specs.List.{IsDistinct, list_any}
use Rattle.std.specs.Map.{lookup, keys_of, values_of}
use Rattle.std.proofs.lemmas.List.Quantifiers.{position-Some}
use Rattle.std.proofs.lemmas.Map.Keys.{IsDistinct-push}
use Rattle.std.proofs.lemmas.Map.Views.{Contains-from_any, Contains-from_lookup, lookup-from_Contains}
use Rattle.std.proofs.lemmas.Option.{get_or_from_slice_get, same_Some, slice_get-map, slice_get_within}
use Rattle.std.proofs.lemmas.List.{get_or-map, map_push}
use Rattle.std.proofs.lemmas.List.Elements.{Contains-push_cases}
use Rattle.plain_laws.proofs.Members.{among_contained, contains_among, contains_map, contains_nothing, map_among}
use Rattle.plain_laws.proofs.Options.{find_among, find_contains}
use Rattle.cim_words.specs.PhaseNames.{and_then}
use Rattle.cim_words.specs.Phases.{has_phase, has_no_phase}
use Rattle.cim_words.specs.declared.phases.Phase.{Phase}
use Rattle.cim_words.specs.declared.phases.PhaseSet.{PhaseSet}
use Rattle.graph_pages.specs.Graph.{GraphView, star_of}
use Rattle.graph_pages.specs.Walks.{HasSpoke, StartsAt, listed_phases, phases_at, spoke_of}
use Rattle.graph_pages.specs.declared.star.Spoke.{Spoke}
use Rattle.graph_pages.specs.declared.star.Star.{Star}
use Rattle.feeder_trace.specs.Numbering.{IsNumbering}
use Rattle.feeder_trace.proofs.PhaseLemmas.{no_phase, some_phase}
use Rattle.room_words.proofs.Compared.{term_exact}
use Rattle.room_words.specs.Terms.{same_term}
use Rattle.room_words.specs.declared.term.Term.{Term}
use Rattle.feeder_trace.proofs.TermLemmas.{exact_by, laws_by}

pub values_at : (entries : List (Term × PhaseSet)) (i : ℕ) (entry : Term × PhaseSet) → slice_get entries i ≡ Some entry → slice_get (values_of entries) i ≡ Some entry.1
values_at entries i entry h = slice_get-map (λ (e : Term × PhaseSet). e.1) entries i ∙ ap (option_map (λ (e : Term × PhaseSet). e.1)) h

pub none_from_is_some : {X : Type 0} (o : Option X) → false ≡ is_some o → o ≡ None
none_from_is_some None h = refl
none_from_is_some (Some x) h = cc

pub term_laws : IsEquivalence same_term
term_laws = laws_by same_term (λ t u. refl)

-- a key has an entry
pub entry_of : (entries : List (Term × PhaseSet)) (t : Term) → Contains (keys_of entries) t → (phases : PhaseSet) × Contains entries (t, phases)
entry_of entries t h =
    let (entry, stands, is) = map_among (λ (e : Term × PhaseSet). e.0) entries t (among_contained (keys_of entries) t h) in
    (entry.1, subst (λ (u : Term). Contains entries (u, entry.1)) is (contains_among entries entry stands))

module _ (eq : Term → Term → Bool) (agrees : (t u : Term) → eq t u ≡ same_term t u) (entries : List (Term × PhaseSet)) (t : Term) where
  -- what stands at the place where the terminal was found is the terminal
  pub found_at : (i : ℕ) (entry : Term × PhaseSet) → position (eq t) (keys_of entries) ≡ Some i → slice_get entries i ≡ Some entry → entry.0 ≡ t
  found_at i entry at is =
      let passes = (position-Some (eq t) (keys_of entries) i entry.0 at).1 in
      let key : get_or (keys_of entries) i entry.0 ≡ entry.0 = get_or-map (λ (e : Term × PhaseSet). e.0) entries i entry entry.0 (slice_get_within entries i entry is) ∙ ap (λ (e : Term × PhaseSet). e.0) (get_or_from_slice_get entries i entry entry is) in
      sym (exact_by eq agrees t entry.0 (sym (ap (eq t) key) ∙ passes))

  pub found_none : lookup (eq t) entries ≡ None → IsDistinct eq (keys_of entries) → (phases : PhaseSet) → Contains entries (t, phases) → ⊥
  found_none none unique phases has =
      let some = lookup-from_Contains (laws_by eq agrees) t phases entries unique has in
      cc

  pub found_every : (own phases : PhaseSet) → lookup (eq t) entries ≡ Some own → IsDistinct eq (keys_of entries) → Contains entries (t, phases) → own ≡ phases
  found_every own phases found unique has = same_Some own phases (sym found ∙ lookup-from_Contains (laws_by eq agrees) t phases entries unique has)

  -- what is not there is not found
  pub absent_none : ((phases : PhaseSet) → Contains entries (t, phases) → ⊥) → lookup (eq t) entries ≡ None
  absent_none absent = by (lookup (eq t) entries) refl
    where
      by : (o : Option PhaseSet) → lookup (eq t) entries ≡ o → o ≡ None
      by None is = refl
      by (Some phases) is = absurd (absent phases (Contains-from_lookup (exact_by eq agrees) t phases entries is))

-- a terminal with a phase is listed by its owner's star
module _ (g : GraphView) (t : Term) (p : Phase) where
  listed_spoke : (star : Star) → star_of g t.owner.number ≡ Some star → (o : Option Spoke) → find (λ (spoke : Spoke). same_term spoke.term t) star.spokes ≡ o → spoke_of g t ≡ o → IsTrue (has_phase (phases_at g t) p) → StartsAt g t.owner.number t
  listed_spoke star at None is spoke h = absurd (no_phase p (subst (λ (set : PhaseSet). IsTrue (has_phase set p)) (ap (listed_phases g) spoke) h))
  listed_spoke star at (Some spoke) is has h =
      let here : spoke.term ≡ t = term_exact spoke.term t (find_among (λ (spoke : Spoke). same_term spoke.term t) star.spokes spoke is).1 in
      (star, at, subst (HasSpoke star) here (contains_map (λ (s : Spoke). s.term) star.spokes spoke (find_contains (λ (spoke : Spoke). same_term spoke.term t) star.spokes spoke is)))

  listed_star : (o : Option Star) → star_of g t.owner.number ≡ o → IsTrue (has_phase (phases_at g t) p) → StartsAt g t.owner.number t
  listed_star None at h = absurd (no_phase p (subst (λ (set : PhaseSet). IsTrue (has_phase set p))
      (ap (λ (o : Option Star). listed_phases g (and_then o (λ (star : Star). find (λ (spoke : Spoke). same_term spoke.term t) star.spokes))) at) h))
  listed_star (Some star) at h =
      listed_spoke star at (find (λ (spoke : Spoke). same_term spoke.term t) star.spokes) refl
      (ap (λ (o : Option Star). and_then o (λ (star : Star). find (λ (spoke : Spoke). same_term spoke.term t) star.spokes)) at) h

  pub listed_at : IsTrue (has_phase (phases_at g t) p) → StartsAt g t.owner.number t
  listed_at h = listed_star (star_of g t.owner.number) refl h

-- no terminal has a number, or one more has
pub numbering_none : (g : GraphView) (terminals : List (Term × PhaseSet)) → terminals ≡ [] → IsNumbering g terminals
unfolding IsDistinct
numbering_none g terminals none = subst (IsNumbering g) (sym none) (record {
  once = tt;
  sound = λ t phases h. contains_nothing (t, phases) h;
  listed = λ t phases h. contains_nothing (t, phases) h;
})

module _ (g : GraphView) (terminals : List (Term × PhaseSet)) (t : Term) (own : PhaseSet) (is : own ≡ phases_at g t) (some : has_no_phase own ≡ false) (absent : (other : PhaseSet) → Contains terminals (t, other) → ⊥) where
  not_among : (b : Bool) → list_any (same_term t) (keys_of terminals) ≡ b → b ≡ false
  not_among false any = refl
  not_among true any = let entry = entry_of terminals t (Contains-from_any term_exact t (keys_of terminals) any) in absurd (absent entry.0 entry.1)

  stands : StartsAt g t.owner.number t
  stands = let one = some_phase own some in listed_at g t one.0 (subst (λ (set : PhaseSet). IsTrue (has_phase set one.0)) is one.1)

  either : {P : Term → PhaseSet → Type 0} → ((u : Term) (phases : PhaseSet) → Contains terminals (u, phases) → P u phases) → P t own → (u : Term) (phases : PhaseSet) → Contains (terminals ++ (t, own) ∷ []) (u, phases) → P u phases
  either {P} old new u phases h = ⊎_elim (old u phases) (λ same. subst (λ (e : Term × PhaseSet). P e.0 e.1) same new) (Contains-push_cases terminals (t, own) (u, phases) h)

  pub numbering_more : IsNumbering g terminals → IsNumbering g (terminals ++ (t, own) ∷ [])
  numbering_more old = record {
    once = subst (IsDistinct same_term) (sym (map_push (λ (e : Term × PhaseSet). e.0) terminals (t, own))) (IsDistinct-push term_laws (keys_of terminals) t old.once (not_among (list_any (same_term t) (keys_of terminals)) refl));
    sound = either {P = λ u phases. phases ≡ phases_at g u} old.sound is;
    listed = either {P = λ u phases. StartsAt g u.owner.number u} old.listed stands;
  }
