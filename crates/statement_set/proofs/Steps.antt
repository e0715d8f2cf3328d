-- Loops over what an iterator has left of a list.
use Rattle.std.proofs.Common.{◌≡◌, ℕ, ◌+◌, ◌<◌, ◌≤◌, List, [], ◌∷◌, length, drop, get_or, Option, Some, None, ap, sym, subst, ◌∙◌, arith, Bor}
use Rattle.std.specs.Iterator.{YieldsFirstRef}
use Rattle.std.proofs.lemmas.Iterator.{YieldsList}
use Rattle.std.proofs.lemmas.Iterator.Consumers.{YieldsList-from_first}
use Rattle.std.proofs.lemmas.List.{length-drop, get_or-drop, drop-drop}
use Rattle.cim_words.specs.declared.statement.Statement.{Statement}

-- the item at an index of a list, and what is left after it
pub record IsStep {X : Type 0} (xs : List X) (i : ℕ) (x : X) (after : List X) : Type 0 where
  pub within : i < length xs
  pub is : x ≡ get_or xs i x
  pub left : after ≡ drop (i + 1) xs

step_at : {X : Type 0} (xs : List X) (i : ℕ) (x : X) (after : List X) → drop i xs ≡ x ∷ after → IsStep xs i x after
step_at {X} xs i x after h = record {
  within = omega (arith, ap length h, length-drop i xs);
  is = sym (ap (λ (n : ℕ). get_or xs n x) {x = i} {y = i + 0} (omega arith) ∙ sym (get_or-drop i xs 0 x) ∙ ap (λ (ys : List X). get_or ys 0 x) h);
  left = sym (sym (drop-drop 1 i xs) ∙ ap (λ (ys : List X). drop 1 ys) h);
}

pub yields_first : {X : Type 0} (left after : List X) (o : Option (Bor X)) (x : Bor X) → o ≡ Some x → YieldsFirstRef (λ l. l) left o after → left ≡ x.now ∷ after
yields_first {X} left after o x is steps = subst (λ (p : Option (Bor X)). YieldsFirstRef (λ l. l) left p after) is steps

pub yields_nothing : {X : Type 0} (left after : List X) (o : Option (Bor X)) → o ≡ None → YieldsFirstRef (λ l. l) left o after → left ≡ []
yields_nothing {X} left after o is steps = let ended : (left ≡ []) × (after ≡ []) = subst (λ (p : Option (Bor X)). YieldsFirstRef (λ l. l) left p after) is steps in ended.0

-- one more item
pub yields_step : {X : Type 0} (xs : List X) (i : ℕ) (left after : List X) (o : Option (Bor X)) (x : Bor X) → left ≡ drop i xs → o ≡ Some x → YieldsFirstRef (λ l. l) left o after → IsStep xs i x.now after
yields_step xs i left after o x at is steps = step_at xs i x.now after (sym at ∙ yields_first left after o x is steps)

-- no more items
pub yields_end : {X : Type 0} (xs : List X) (i : ℕ) (left after : List X) (o : Option (Bor X)) → left ≡ drop i xs → o ≡ None → YieldsFirstRef (λ l. l) left o after → length xs ≤ i
yields_end xs i left after o at is steps = omega (arith, ap length (sym at ∙ yields_nothing left after o is steps), length-drop i xs)

-- a chain over statements gives just those that are left
pub YieldsList-from_about : {left : List Statement} (xs : List Statement) → left ≡ xs → YieldsList (YieldsFirstRef (λ (l : List Statement). l)) (λ (x : Bor Statement). x.now) left xs
YieldsList-from_about xs is = YieldsList-from_first (λ (x : Bor Statement). x.now) (λ (l : List Statement). l) xs is
