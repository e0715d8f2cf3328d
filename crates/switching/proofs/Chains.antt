-- The first of several that is there, as a chain of calls gives it.
use Rattle.std.proofs.Common.{◌≡◌, List, [], ◌∷◌, Option, Some, None, refl, ◌∙◌}
use Rattle.std.specs.List.{cons_option, filter_map}
use Rattle.std.specs.Option.{MatchOption}
use Rattle.cim_words.specs.declared.statement.Statement.{Statement}
use Rattle.cim_model.specs.Network.{first, or_else}
use Rattle.cim_model.specs.Refusals.{already, beyond, crowded, full, in_use, kind, no_anchor, no_phase, not_held, one_anchor, permanent, refusal_of, same_place, taken, unknown}
use Rattle.room_words.specs.declared.act.Act.{Act}
use Rattle.room_words.specs.declared.overlay.Overlay.{Overlay}
use Rattle.switching.specs.Parts.{of_limits, of_place, of_target}

-- one more, asked where the ones before are not there
pub next : {X : Type 0} {P : Type 0} (o a q r : Option X) → o ≡ a → MatchOption o P (λ (x : X). r ≡ Some x) → (P → r ≡ q) → r ≡ or_else a q
next None None q r is then means = means then
next None (Some x) q r is then means = absurd cc
next (Some x) None q r is then means = absurd cc
next (Some x) (Some y) q r is then means = then ∙ is

-- a chain, and the first of a list
behind : {X : Type 0} (a b c : Option X) → or_else (or_else a b) c ≡ or_else a (or_else b c)
behind None b c = refl
behind (Some x) b c = refl

listed : {X : Type 0} (a : Option X) (xs : List X) → first (cons_option a xs) ≡ or_else a (first xs)
listed None xs = refl
listed (Some x) xs = refl

last : {X : Type 0} (a : Option X) → or_else a None ≡ a
last None = refl
last (Some x) = refl

in_order : {X : Type 0} (a b c d e f g h i j k l m n : Option X)
    → or_else (or_else (or_else (or_else (or_else (or_else (or_else a b) c) d) e) f) (or_else (or_else (or_else (or_else g h) i) j) k)) (or_else (or_else l m) n)
    ≡ first (filter_map (λ (r : Option X). r) (a ∷ b ∷ c ∷ d ∷ e ∷ f ∷ g ∷ h ∷ i ∷ j ∷ k ∷ l ∷ m ∷ n ∷ []))
in_order a b c d e f g h i j k l m n = simp (behind, listed, last)

pub all_in_order : (m : List Statement) (o : Overlay) (a : Act) → or_else (or_else (of_target m o a) (of_place m o a)) (of_limits m o a) ≡ refusal_of m o a
unfolding of_target of_place of_limits
all_in_order m o a =
    in_order (unknown m o a) (taken m o a) (kind m o a) (permanent m a) (already m o a) (not_held o a) (beyond m a) (same_place m o a)
    (no_anchor m o a) (one_anchor a) (no_phase a) (crowded m o a) (in_use o a) (full o a)
