-- A model has one least fault, and an overlay one first loss on it.
use Rattle.std.proofs.Common.{◌≡◌, ℕ, List, Some, None, inl, inr, sym, ap, ◌∙◌, arith}
use Rattle.cim_model.specs.Stands.{ItemStands, PositionStands}
use Rattle.cim_profile.specs.FirstBreak.{IsAtMost, IsFirstBreak}
use Rattle.cim_words.specs.declared.identifier.Id.{Id}
use Rattle.cim_words.specs.declared.statement.Statement.{Statement}
use Rattle.cutover.proofs.Firsts.{no_first, one_first}
use Rattle.room_words.specs.Items.{item_id}
use Rattle.room_words.specs.declared.overlay.Overlay.{Overlay}
use Rattle.room_words.specs.declared.overlay.Position.{Position}
use Rattle.temporary.specs.Lost.{IsFirstLost}

same_place : (r x q y : ℕ) → IsAtMost r x q y → IsAtMost q y r x → (r ≡ q) × (x ≡ y)
same_place r x q y (inl below) (inl above) = absurd (omega arith)
same_place r x q y (inl below) (inr same) = let equal = same.0 in absurd (omega arith)
same_place r x q y (inr same) (inl above) = let equal = same.0 in absurd (omega arith)
same_place r x q y (inr same) (inr same') = let low = same.1 in let high = same'.1 in (same.0, omega arith)

pub one_break : (m : List Statement) (r q : ℕ) (x y : Id) → IsFirstBreak m (Some (record { rule = r; subject = x })) → IsFirstBreak m (Some (record { rule = q; subject = y }))
    → (r ≡ q) × (x ≡ y)
one_break m r q x y a b =
    let same = same_place r x.number q y.number (a.1 q y.number b.0) (b.1 r x.number a.0) in
    (same.0, ap (λ (n : ℕ). record { number = n }) same.1)

-- what stands as a whole has lost nothing
pub none_lost : (m : List Statement) (o : Overlay) (x : Id) → IsFirstLost m o None → IsFirstLost m o (Some x) → ⊥
none_lost m o x stands (inl item) = no_first (ItemStands m o) o.items item.0 stands.0 item.1
none_lost m o x stands (inr position) = no_first (PositionStands m) o.positions position.1.0 stands.1 position.1.1

pub one_lost : (m : List Statement) (o : Overlay) (x y : Id) → IsFirstLost m o (Some x) → IsFirstLost m o (Some y) → x ≡ y
one_lost m o x y (inl a) (inl b) = sym a.2 ∙ ap item_id (one_first (ItemStands m o) o.items a.0 b.0 a.1 b.1).1 ∙ b.2
one_lost m o x y (inl a) (inr b) = absurd (no_first (ItemStands m o) o.items a.0 b.0 a.1)
one_lost m o x y (inr a) (inl b) = absurd (no_first (ItemStands m o) o.items b.0 a.0 b.1)
one_lost m o x y (inr a) (inr b) =
    sym a.1.2 ∙ ap (λ (position : Position). position.switch) (one_first (PositionStands m) o.positions a.1.0 b.1.0 a.1.1 b.1.1).1 ∙ b.1.2
