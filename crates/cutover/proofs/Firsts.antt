-- The first of a list that has not what the others before it have is one, and there is none where all have it.
use Rattle.std.proofs.Common.{◌≡◌, ◌+◌, ℕ, List, [], ◌∷◌, ◌++◌, length, Contains, inl, refl, ap, sym, ◌∙◌, subst}
use Rattle.cim_words.specs.declared.statement.Statement.{Statement}
use Rattle.difference.specs.Result.{IsMissing}
use Rattle.plain_laws.proofs.Members.{among_right, contains_among, contains_first, contains_rest}
use Rattle.room_words.specs.Firsts.{AllHave, IsFirstWithout}

module _ {X : Type 0} (P : X → Type 0) where
  all_after : (x : X) (xs : List X) → AllHave P (x ∷ xs) → AllHave P xs
  all_after x xs have y there = have y (contains_rest x xs y there)

  one_place : (before before' after after' : List X) (x y : X) → before ++ x ∷ after ≡ before' ++ y ∷ after' → AllHave P before → AllHave P before'
      → (P x → ⊥) → (P y → ⊥) → (before ≡ before') × (x ≡ y)
  one_place [] [] after after' x y same have have' without without' = (refl, cc)
  one_place [] (w ∷ ws) after after' x y same have have' without without' =
      let first : w ≡ x = cc in
      absurd (without (subst P first (have' w (contains_first w ws))))
  one_place (v ∷ vs) [] after after' x y same have have' without without' =
      let first : v ≡ y = cc in
      absurd (without' (subst P first (have v (contains_first v vs))))
  one_place (v ∷ vs) (w ∷ ws) after after' x y same have have' without without' =
      let first : v ≡ w = cc in
      let rest : vs ++ x ∷ after ≡ ws ++ y ∷ after' = cc in
      let both = one_place vs ws after after' x y rest (all_after v vs have) (all_after w ws have') without without' in
      let fronts : vs ≡ ws = both.0 in
      (cc, both.1)

  -- the first without and what stands before it are one
  pub one_first : (xs : List X) (x y : X) (a : IsFirstWithout P xs x) (b : IsFirstWithout P xs y) → (a.before ≡ b.before) × (x ≡ y)
  one_first xs x y a b = one_place a.before b.before a.after b.after x y (sym a.listed ∙ b.listed) a.have b.have a.without b.without

  pub no_first : (xs : List X) (x : X) → AllHave P xs → IsFirstWithout P xs x → ⊥
  no_first xs x have is =
      is.without (have x (subst (λ (ys : List X). Contains ys x) (sym is.listed) (contains_among (is.before ++ x ∷ is.after) x (among_right is.before (x ∷ is.after) x (inl refl)))))

-- the number of the first that is missing is one, and there is none where all are there
pub one_missing : (set listed : List Statement) (n k : ℕ) → IsMissing set listed n → IsMissing set listed k → n ≡ k
one_missing set listed n k a b =
    a.counted ∙ ap (λ (before : List Statement). length before + 1) (one_first (Contains set) listed a.statement b.statement a.first b.first).0 ∙ sym b.counted

pub none_missing : (set listed : List Statement) (n : ℕ) → AllHave (Contains set) listed → IsMissing set listed n → ⊥
none_missing set listed n all is = no_first (Contains set) listed is.statement all is.first
