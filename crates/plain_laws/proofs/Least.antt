-- A list with an element has one of the least number.
use Rattle.std.proofs.Common.{◌≡◌, ℕ, ◌≤◌, inl, inr, List, [], ◌∷◌, Bool, true, false, nat_le, refl, subst, arith}
use Rattle.std.proofs.lemmas.Bool.Decides.{nat_tests}
use Rattle.plain_laws.proofs.Members.{Among}

-- an element whose number is no greater than that of any other
pub record HasLeast {X : Type 0} (n : X → ℕ) (xs : List X) : Type 0 where
  pub one : X
  pub listed : Among xs one
  pub least : (other : X) → Among xs other → n one ≤ n other

lesser_of : {X : Type 0} (n : X → ℕ) (x y : X) (xs : List X) (b : Bool) → nat_le (n x) (n y) ≡ b → Among xs y → ((other : X) → Among xs other → n y ≤ n other) → HasLeast n (x ∷ xs)
lesser_of n x y xs true is there least = record {
  one = x;
  listed = inl refl;
  least = λ other has. elim has [
    | inl same ↦ subst (λ (z : _). n x ≤ n z) same (omega arith)
    | inr later ↦ (let below = least other later in let low = within (n x) (n y) is in omega (arith, below, low))
  ];
}
  where
    within : (a b : ℕ) → nat_le a b ≡ true → a ≤ b
    within a b is = grind (arith, nat_tests)
lesser_of n x y xs false is there least = record {
  one = y;
  listed = inr there;
  least = λ other has. elim has [
    | inl same ↦ subst (λ (z : _). n y ≤ n z) same (beyond (n x) (n y) is)
    | inr later ↦ least other later
  ];
}
  where
    beyond : (a b : ℕ) → nat_le a b ≡ false → b ≤ a
    beyond a b is = grind (arith, nat_tests)

pub has_least : {X : Type 0} (n : X → ℕ) (x : X) (xs : List X) → HasLeast n (x ∷ xs)
has_least n x [] = record { one = x; listed = inl refl; least = λ other has. elim has [ inl same ↦ subst (λ (z : _). n x ≤ n z) same (omega arith) | inr none ↦ absurd none ] }
has_least n x (y ∷ xs) = let rest = has_least n y xs in lesser_of n x rest.one (y ∷ xs) (nat_le (n x) (n rest.one)) refl rest.listed rest.least
