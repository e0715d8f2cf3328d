use Rattle.std.proofs.Common.{◌≡◌, ℕ, List, [], ◌∷◌, map, nat_eq, sym, ap, ap₂, ◌∙◌, subst, refl}
use Rattle.std.specs.List.{IsDistinct}
use Rattle.std.specs.Map.{keys_of}
use Rattle.room_words.specs.Terms.{same_anchor}
use Rattle.graph_pages.specs.declared.star.Star.{Star}
use Rattle.room_words.specs.declared.term.Term.{Term}
use Rattle.room_words.specs.declared.anchor.Anchor.{Anchor}
use Rattle.network_tests.proofs.traces.network.Goals as goal

pub build-requires-clause-stars : goal.build-requires-clause-stars
unfolding IsDistinct
build-requires-clause-stars g c =
    let numbers : map (λ (star : Star). star.id.number) c.in_ok-stars.stars.items ≡ 1 ∷ 2 ∷ 3 ∷ [] =
    ap (map (λ (star : Star). star.id.number)) c.in_ok-stars.ensures.items ∙ ap₂ (λ (n m : ℕ). n ∷ m ∷ c.star-third.result.id.number ∷ []) c.star-first.ensures c.star-second.ensures ∙ ap (λ (n : ℕ). 1 ∷ 2 ∷ n ∷ []) c.star-third.ensures in
    subst (IsDistinct nat_eq) (sym numbers) ((refl, (refl, tt)), ((refl, tt), (tt, tt)))

pub build-requires-clause-places : goal.build-requires-clause-places
unfolding IsDistinct
build-requires-clause-places g c = subst (λ (places : List (Anchor × List Term)). IsDistinct same_anchor (keys_of places)) (sym c.in_ok-places.ensures.items) (tt, tt)
