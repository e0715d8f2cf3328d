-- The sides of an item: whose terminals they are, and where they stand.
use Rattle.std.proofs.Common.{◌≡◌, ◌⊎◌, ℕ, inl, inr, [], ◌∷◌, true, IsTrue, Some, Contains, refl, ap, subst}
use Rattle.plain_laws.proofs.Members.{Among, contains_among, map_among}
use Rattle.plain_laws.proofs.Numbers.{equal_itself}
use Rattle.plain_laws.proofs.Tests.{among_any}
use Rattle.cim_words.specs.declared.identifier.Id.{Id}
use Rattle.room_words.specs.Items.{anchors, item_id, item_place, item_terms, makes, own_places, standing, term_in}
use Rattle.room_words.specs.Terms.{same_anchor}
use Rattle.room_words.specs.declared.anchor.Anchor.{Anchor}
use Rattle.room_words.specs.declared.anchor.Anchor.TheVariants as anchor
use Rattle.room_words.specs.declared.items.TempItem.{TempItem}
use Rattle.room_words.specs.declared.items.TempItem.TheVariants as item
use Rattle.room_words.specs.declared.term.Term.{Term}
use Rattle.room_words.specs.declared.term.TermKey.TheVariants as key

-- a side of an item is a terminal of the item, with a number for a key
pub record IsSideOf (one : TempItem) (t : Term) : Type 0 where
  pub owner : t.owner ≡ item_id one
  pub number : ℕ
  pub key : t.key ≡ key.Side number

pub standing_is_side : (one : TempItem) (s : Anchor × Term) → Among (standing one) s → IsSideOf one s.1
standing_is_side (item.Cut id segment length is_open) s (inl is) = subst (λ (s : Anchor × Term). IsSideOf (item.Cut id segment length is_open) s.1) is (record { owner = refl; number = 1; key = refl })
standing_is_side (item.Cut id segment length is_open) s (inr (inl is)) = subst (λ (s : Anchor × Term). IsSideOf (item.Cut id segment length is_open) s.1) is (record { owner = refl; number = 2; key = refl })
standing_is_side (item.Cut id segment length is_open) s (inr (inr there)) = absurd there
standing_is_side (item.Clamp id segment length) s (inl is) = subst (λ (s : Anchor × Term). IsSideOf (item.Clamp id segment length) s.1) is (record { owner = refl; number = 1; key = refl })
standing_is_side (item.Clamp id segment length) s (inr there) = absurd there
standing_is_side (item.Jumper id first second phases is_open) s (inl is) = subst (λ (s : Anchor × Term). IsSideOf (item.Jumper id first second phases is_open) s.1) is (record { owner = refl; number = 1; key = refl })
standing_is_side (item.Jumper id first second phases is_open) s (inr (inl is)) = subst (λ (s : Anchor × Term). IsSideOf (item.Jumper id first second phases is_open) s.1) is (record { owner = refl; number = 2; key = refl })
standing_is_side (item.Jumper id first second phases is_open) s (inr (inr there)) = absurd there
standing_is_side (item.Ground id at phases) s (inl is) = subst (λ (s : Anchor × Term). IsSideOf (item.Ground id at phases) s.1) is (record { owner = refl; number = 1; key = refl })
standing_is_side (item.Ground id at phases) s (inr there) = absurd there

pub item_term_side : (one : TempItem) (t : Term) → Among (item_terms one) t → IsSideOf one t
item_term_side one t there = let s = map_among term_in (standing one) t there in subst (IsSideOf one) s.2 (standing_is_side one s.0 s.1)

-- a side stands where its item says

pub standing_states_place : (one : TempItem) (s : Anchor × Term) → Among (standing one) s → item_place one s.1 ≡ Some s.0
standing_states_place (item.Cut id segment length is_open) s (inl is) = subst (λ (s : Anchor × Term). item_place (item.Cut id segment length is_open) s.1 ≡ Some s.0) is (rw (equal_itself id.number) refl)
standing_states_place (item.Cut id segment length is_open) s (inr (inl is)) = subst (λ (s : Anchor × Term). item_place (item.Cut id segment length is_open) s.1 ≡ Some s.0) is (rw (equal_itself id.number) refl)
standing_states_place (item.Cut id segment length is_open) s (inr (inr there)) = absurd there
standing_states_place (item.Clamp id segment length) s (inl is) = subst (λ (s : Anchor × Term). item_place (item.Clamp id segment length) s.1 ≡ Some s.0) is (rw (equal_itself id.number) refl)
standing_states_place (item.Clamp id segment length) s (inr there) = absurd there
standing_states_place (item.Jumper id first second phases is_open) s (inl is) = subst (λ (s : Anchor × Term). item_place (item.Jumper id first second phases is_open) s.1 ≡ Some s.0) is (rw (equal_itself id.number) refl)
standing_states_place (item.Jumper id first second phases is_open) s (inr (inl is)) = subst (λ (s : Anchor × Term). item_place (item.Jumper id first second phases is_open) s.1 ≡ Some s.0) is (rw (equal_itself id.number) refl)
standing_states_place (item.Jumper id first second phases is_open) s (inr (inr there)) = absurd there
standing_states_place (item.Ground id at phases) s (inl is) = subst (λ (s : Anchor × Term). item_place (item.Ground id at phases) s.1 ≡ Some s.0) is (rw (equal_itself id.number) refl)
standing_states_place (item.Ground id at phases) s (inr there) = absurd there

-- it stands at a place that the item makes, or at an anchor
made : (one : TempItem) (place : Anchor) → IsTrue (same_anchor place place) → Among (own_places one) place → makes place one ≡ true
made one place itself there = among_any (same_anchor place) (own_places one) place there itself

pub standing_at : (one : TempItem) (s : Anchor × Term) → ((place : Anchor) → IsTrue (same_anchor place place)) → Among (standing one) s → (makes s.0 one ≡ true) ⊎ Contains (anchors one) s.0
standing_at (item.Cut id segment length is_open) s itself (inl is) = inl (made (item.Cut id segment length is_open) s.0 (itself s.0) (inl (ap (λ (s : Anchor × Term). s.0) is)))
standing_at (item.Cut id segment length is_open) s itself (inr (inl is)) = inl (made (item.Cut id segment length is_open) s.0 (itself s.0) (inr (inl (ap (λ (s : Anchor × Term). s.0) is))))
standing_at (item.Cut id segment length is_open) s itself (inr (inr there)) = absurd there
standing_at (item.Clamp id segment length) s itself (inl is) = inl (made (item.Clamp id segment length) s.0 (itself s.0) (inl (ap (λ (s : Anchor × Term). s.0) is)))
standing_at (item.Clamp id segment length) s itself (inr there) = absurd there
standing_at (item.Jumper id first second phases is_open) s itself (inl is) = inr (contains_among (first ∷ second ∷ []) s.0 (inl (ap (λ (s : Anchor × Term). s.0) is)))
standing_at (item.Jumper id first second phases is_open) s itself (inr (inl is)) = inr (contains_among (first ∷ second ∷ []) s.0 (inr (inl (ap (λ (s : Anchor × Term). s.0) is))))
standing_at (item.Jumper id first second phases is_open) s itself (inr (inr there)) = absurd there
standing_at (item.Ground id at phases) s itself (inl is) = inr (contains_among (at ∷ []) s.0 (inl (ap (λ (s : Anchor × Term). s.0) is)))
standing_at (item.Ground id at phases) s itself (inr there) = absurd there

-- a place that an item makes is a side, and no node
pub no_node_made : (one : TempItem) (n : Id) → makes (anchor.Node n) one ≡ true → ⊥
no_node_made (item.Cut id segment length is_open) n is = cc
no_node_made (item.Clamp id segment length) n is = cc
no_node_made (item.Jumper id first second phases is_open) n is = cc
no_node_made (item.Ground id at phases) n is = cc
