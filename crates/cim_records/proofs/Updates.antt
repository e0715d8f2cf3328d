-- What is found in a table after one entry has changed.
use Rattle.std.proofs.Common.{◌≡◌, ℕ, List, [], ◌∷◌, ◌++◌, Bool, true, false, cond, ◌==◌, Option, Some, refl, ap, sym, ◌∙◌}
use Rattle.std.specs.Prelude.{if◌then◌else◌, unwrap_or}
use Rattle.std.proofs.lemmas.Bool.{eqb-true}
use Rattle.plain_laws.proofs.Numbers.{equal_turned}
use Rattle.cim_words.specs.declared.identifier.Id.{Id}
use Rattle.cim_records.specs.Found.{found, members}

-- the entry of a key has a value, and the others are as before
abbrev pub Sets : {V : Type 0} → List (Id × V) → List (Id × V) → ℕ → V → Type 0
Sets old new k v = (x : ℕ) → found new x ≡ cond (k == x) (Some v) (found old x)

set_at : {V : Type 0} (k x : ℕ) (v w : V) (o : Option V) (old : ℕ → V) (b : Bool) → (x == k) ≡ b → v ≡ old k → cond b (Some v) o ≡ (if b then Some (old x) else o)
set_at k x v w o old true is same = ap (λ (u : _). Some u) (same ∙ ap old (sym (eqb-true x k is)))
set_at k x v w o old false is same = refl

pub found_set : {V : Type 0} (entries now : List (Id × V)) (k : ℕ) (v : V) (value : ℕ → V) → Sets entries now k v → v ≡ value k → (x : ℕ) → found now x ≡ (if x == k then Some (value x) else found entries x)
found_set entries now k v value sets is x = sets x ∙ ap (λ (b : Bool). cond b (Some v) (found entries x)) (equal_turned k x) ∙ set_at k x v v (found entries x) value (x == k) refl is

opened : {V : Type 0} (v d : V) (o : Option V) (b : Bool) → unwrap_or (if b then Some v else o) d ≡ (if b then v else unwrap_or o d)
opened v d o true = refl
opened v d o false = refl

-- a list that has one member more
pub members_set : {V : Type 0} (entries now : List (Id × List V)) (k : ℕ) (list : List V) (member : V) → Sets entries now k list → list ≡ members entries k ++ member ∷ []
    → (x : ℕ) → members now x ≡ (if x == k then members entries x ++ member ∷ [] else members entries x)
members_set entries now k list member sets is x =
    ap (λ (o : Option (List _)). unwrap_or o []) (found_set entries now k list (λ y. members entries y ++ member ∷ []) sets is x)
    ∙ opened (members entries x ++ member ∷ []) [] (found entries x) (x == k)
