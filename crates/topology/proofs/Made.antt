-- A graph of the stars of all owners and of the members of all places is the graph of the live network.
use Rattle.std.proofs.Common.{◌≡◌, ℕ, ◌+◌, ◌<◌, inl, inr, List, [], ◌∷◌, ◌++◌, length, take, get_or, map, Bool, true, false, ◌==◌, nat_eq, cond, Option, Some, None, Result, Ok, Err, IfOk, refl, ap, sym, ◌∙◌, subst}
use Rattle.std.specs.List.{IsDistinct}
use Rattle.std.specs.Map.{keys_of, lookup}
use Rattle.std.proofs.lemmas.List.{map-append, take_more}
use Rattle.std.proofs.lemmas.Option.{same_Some}
use Rattle.std.proofs.lemmas.Simd.{map-map}
use Rattle.std.proofs.lemmas.Bool.{eqb-true, false_from_ne_true}
use Rattle.plain_laws.proofs.Each.{each_among, each_push}
use Rattle.plain_laws.proofs.Members.{Among, map_among}
use Rattle.plain_laws.proofs.Numbers.{equal_itself}
use Rattle.plain_laws.proofs.Options.{among_find, cond_none, find_among}
use Rattle.plain_laws.proofs.Truth.{never_both}
use Rattle.cim_model.specs.Live.{is_live, is_place}
use Rattle.cim_model.specs.Values.{as_id, number_of_id}
use Rattle.cim_words.specs.declared.identifier.Id.{Id}
use Rattle.cim_words.specs.declared.statement.Statement.{Statement}
use Rattle.graph_pages.specs.Graph.{GraphView, members_in, members_of, star_in, star_of}
use Rattle.graph_pages.specs.declared.star.Star.{Star}
use Rattle.link_rules.specs.Map.{IsEntry, IsMap, IsStarAt}
use Rattle.room_words.specs.Terms.{same_anchor}
use Rattle.room_words.specs.declared.anchor.Anchor.{Anchor}
use Rattle.room_words.specs.declared.overlay.Overlay.{Overlay}
use Rattle.room_words.specs.declared.term.Term.{Term}
use Rattle.topology.specs.Held.{HoldsMembers, HoldsStars}
use Rattle.topology.specs.Listed.{owners, places}
use Rattle.topology.proofs.Distinct.{IsKnown, distinct_owners, distinct_places, is_listed, live_owner}

abbrev pub id_of : Star → Id
id_of star = star.id

abbrev pub key_of : Anchor × List Term → Anchor
key_of place = place.0

-- ---- one more entry

keys_more : {X K : Type 0} (key : X → K) (ks : List K) (i : ℕ) (d : K) (xs : List X) (x : X) → i < length ks → map key xs ≡ take i ks → key x ≡ get_or ks i d → map key (xs ++ x ∷ []) ≡ take (i + 1) ks
keys_more key ks i d xs x within so_far is =
    map-append key xs (x ∷ []) ∙ ap (λ (front : List _). front ++ key x ∷ []) so_far ∙ ap (λ (k : _). take i ks ++ k ∷ []) is ∙ sym (take_more ks i d within)

pub star_more : (m : List Statement) (o : Overlay) (ids : List Id) (i : ℕ) (d : Id) (found : Option Star) (star : Star) (stars : List Star) → i < length ids
    → IsStarAt m o (get_or ids i d).number found → found ≡ Some star → HoldsStars m o (take i ids) stars → HoldsStars m o (take (i + 1) ids) (stars ++ star ∷ [])
star_more m o ids i d found star stars within at is so_far =
    let there : IsStarAt m o (get_or ids i d).number (Some star) = subst (IsStarAt m o (get_or ids i d).number) is at in
    record {
      keys = keys_more id_of ids i d stars star within so_far.keys there.1.id;
      entries = each_push (λ (star : Star). IsStarAt m o star.id.number (Some star)) stars star so_far.entries (subst (λ (id : Id). IsStarAt m o id.number (Some star)) (sym there.1.id) there);
    }

pub some_star : (m : List Statement) (o : Overlay) (x : ℕ) (found : Option Star) → IsStarAt m o x found → found ≡ None → is_live m o x ≡ true → ⊥
some_star m o x found at none live =
    let dead : is_live m o x ≡ false = subst (IsStarAt m o x) none at in
    let both : true ≡ false = sym live ∙ dead in
    cc

pub members_more : (m : List Statement) (o : Overlay) (ps : List Anchor) (i : ℕ) (d : Anchor) (found : Option (List Term)) (members : List Term) (held : List (Anchor × List Term)) → i < length ps
    → IsEntry m o (get_or ps i d) found → found ≡ Some members → HoldsMembers m o (take i ps) held → HoldsMembers m o (take (i + 1) ps) (held ++ (get_or ps i d, members) ∷ [])
members_more m o ps i d found members held within entry is so_far =
    let there : IsEntry m o (get_or ps i d) (Some members) = subst (IsEntry m o (get_or ps i d)) is entry in
    record {
      keys = keys_more key_of ps i d held (get_or ps i d, members) within so_far.keys refl;
      entries = each_push (λ (place : Anchor × List Term). IsEntry m o place.0 (Some place.1)) held (get_or ps i d, members) so_far.entries there;
    }

pub some_members : (m : List Statement) (o : Overlay) (place : Anchor) (found : Option (List Term)) → IsEntry m o place found → found ≡ None → is_place m o place ≡ true → ⊥
some_members m o place found entry none is =
    let no_place : is_place m o place ≡ false = subst (IsEntry m o place) none entry in
    let both : true ≡ false = sym is ∙ no_place in
    cc

-- ---- identifiers and places differ

pub distinct_stars : (m : List Statement) (o : Overlay) (stars : List Star) → IsKnown m o → HoldsStars m o (owners m o) stars → IsDistinct nat_eq (map (λ (star : Star). star.id.number) stars)
distinct_stars m o stars known holds =
    subst (IsDistinct nat_eq) (ap (map number_of_id) (sym holds.keys) ∙ map-map number_of_id id_of stars) (distinct_owners m o known)

pub distinct_held : (m : List Statement) (o : Overlay) (held : List (Anchor × List Term)) → IsKnown m o → HoldsMembers m o (places m o) held → IsDistinct same_anchor (keys_of held)
distinct_held m o held known holds = subst (IsDistinct same_anchor) (sym holds.keys) (distinct_places m o known)

-- ---- looked up, they are the entries of the graph

star_at : (m : List Statement) (o : Overlay) (stars : List Star) (x : ℕ) (found : Option Star) → IsKnown m o → HoldsStars m o (owners m o) stars → star_in stars x ≡ found → IsStarAt m o x found
star_at m o stars x (Some star) known holds is =
    let there = find_among (λ (star : Star). star.id.number == x) stars star is in
    subst (λ (x : ℕ). IsStarAt m o x (Some star)) (eqb-true star.id.number x there.1) (each_among (λ (star : Star). IsStarAt m o star.id.number (Some star)) stars star holds.entries there.0)
star_at m o stars x None known holds is = false_from_ne_true (is_live m o x) (λ live.
    let star = map_among id_of stars (as_id x) (subst (λ (ids : List Id). Among ids (as_id x)) (sym holds.keys) (live_owner m o x known live)) in
    among_find (λ (star : Star). star.id.number == x) stars star.0 star.1 (ap (λ (id : Id). id.number == x) star.2 ∙ equal_itself x) is)

-- a look-up finds an entry whose key passes
lookup_step : (p : Anchor → Bool) (one : Anchor × List Term) (held : List (Anchor × List Term)) (members : List Term) (b : Bool) → p one.0 ≡ b
    → (lookup p held ≡ Some members → (place : Anchor) × Among held (place, members) × (p place ≡ true)) → cond b (Some one.1) (lookup p held) ≡ Some members
    → (place : Anchor) × Among (one ∷ held) (place, members) × (p place ≡ true)
lookup_step p one held members true passes later is = (one.0, inl (ap (λ (members : List Term). (one.0, members)) (same_Some one.1 members is)), passes)
lookup_step p one held members false fails later is = let there = later is in (there.0, inr there.1, there.2)

lookup_among : (p : Anchor → Bool) (held : List (Anchor × List Term)) (members : List Term) → lookup p held ≡ Some members → (place : Anchor) × Among held (place, members) × (p place ≡ true)
lookup_among p [] members is = absurd cc
lookup_among p (one ∷ held) members is = lookup_step p one held members (p one.0) refl (lookup_among p held members) is

none_looked_up : (p : Anchor → Bool) (held : List (Anchor × List Term)) (one : Anchor × List Term) → Among held one → p one.0 ≡ true → lookup p held ≡ None → ⊥
none_looked_up p [] one there passes none = there
none_looked_up p (first ∷ held) one (inl is) passes none = never_both (p first.0) (ap (λ (one : Anchor × List Term). p one.0) is ∙ passes) (cond_none (p first.0) first.1 (lookup p held) none).0
none_looked_up p (first ∷ held) one (inr there) passes none = none_looked_up p held one there passes (cond_none (p first.0) first.1 (lookup p held) none).1

entry_at : (m : List Statement) (o : Overlay) (held : List (Anchor × List Term)) (place : Anchor) (found : Option (List Term)) → IsKnown m o → HoldsMembers m o (places m o) held → members_in held place ≡ found → IsEntry m o place found
entry_at m o held place (Some members) known holds is =
    let there = lookup_among (same_anchor place) held members is in
    subst (λ (place : Anchor). IsEntry m o place (Some members)) (sym ((known.equal place there.0).0 there.2))
    (each_among (λ (place : Anchor × List Term). IsEntry m o place.0 (Some place.1)) held (there.0, members) holds.entries there.1)
entry_at m o held place None known holds is = false_from_ne_true (is_place m o place) (λ yes.
    let one = map_among key_of held place (subst (λ (ps : List Anchor). Among ps place) (sym holds.keys) (is_listed m o place known yes)) in
    none_looked_up (same_anchor place) held one.0 one.1 ((known.equal place one.0.0).1 (sym one.2)) is)

pub made : {E : Type 0} (m : List Statement) (o : Overlay) (stars : List Star) (held : List (Anchor × List Term)) (r : Result GraphView E) → IsKnown m o → HoldsStars m o (owners m o) stars
    → HoldsMembers m o (places m o) held → IfOk r (λ g. (x : ℕ) → star_of g x ≡ star_in stars x) → IfOk r (λ g. (place : Anchor) → members_of g place ≡ members_in held place) → IfOk r (IsMap m o)
made m o stars held (Ok g) known of_stars of_members found_stars found_members = record {
  stars = λ x. subst (IsStarAt m o x) (sym (found_stars x)) (star_at m o stars x (star_in stars x) known of_stars refl);
  places = λ place. subst (IsEntry m o place) (sym (found_members place)) (entry_at m o held place (members_in held place) known of_members refl);
}
made m o stars held (Err e) known of_stars of_members found_stars found_members = tt
