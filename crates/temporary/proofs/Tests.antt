-- What tests say of what there may be, and of the first of a list that fails them.
use Rattle.std.proofs.Common.{◌≡◌, inl, inr, List, [], ◌∷◌, Bool, true, false, Option, Some, None, IfSome, refl, subst, not, cond, find, ap, sym, ◌∙◌}
use Rattle.std.proofs.lemmas.Option.{same_Some}
use Rattle.room_words.specs.Firsts.{AllHave, IsFirstWithout}
use Rattle.plain_laws.proofs.Members.{Among, among_contained, contains_among}
use Rattle.temporary.specs.Parts.{if_there}

-- of what there may be
pub there_passes : {X : Type 0} (p : X → Bool) (P : X → Type 0) (found : Option X) → ((x : X) → p x ≡ true → P x) → if_there found p ≡ true → IfSome found P
there_passes p P None means is = tt
there_passes p P (Some x) means is = means x is

pub passes_there : {X : Type 0} (p : X → Bool) (P : X → Type 0) (found : Option X) → ((x : X) → P x → p x ≡ true) → IfSome found P → if_there found p ≡ true
passes_there p P None means is = refl
passes_there p P (Some x) means is = means x is

-- of the first that fails
module _ {X : Type 0} (p : X → Bool) (P : X → Type 0) (to : (x : X) → p x ≡ true → P x) (from : (x : X) → P x → p x ≡ true) where
  none_if : (y : X) (xs : List X) (b : Bool) → p y ≡ b → cond (not b) (Some y) (find (λ (x : X). not (p x)) xs) ≡ None → (P y) × (find (λ (x : X). not (p x)) xs ≡ None)
  none_if y xs true is none = (to y is, none)
  none_if y xs false is none = absurd cc

  none_among : (xs : List X) → find (λ (x : X). not (p x)) xs ≡ None → (x : X) → Among xs x → P x
  none_among [] none x there = absurd there
  none_among (y ∷ xs) none x (inl is) = subst P is (none_if y xs (p y) refl none).0
  none_among (y ∷ xs) none x (inr there) = none_among xs (none_if y xs (p y) refl none).1 x there

  pub all_have : (xs : List X) → find (λ (x : X). not (p x)) xs ≡ None → AllHave P xs
  all_have xs none x there = none_among xs none x (among_contained xs x there)

  put_first : (y : X) (xs : List X) (x : X) → P y → IsFirstWithout P xs x → IsFirstWithout P (y ∷ xs) x
  put_first y xs x holds is = record {
    before = y ∷ is.before;
    after = is.after;
    listed = ap (λ (rest : List X). y ∷ rest) is.listed;
    have = λ z there. elim (among_contained (y ∷ is.before) z there) [ inl same ↦ subst P same holds | inr later ↦ is.have z (contains_among is.before z later) ];
    without = is.without;
  }

  first_if : (y : X) (xs : List X) (x : X) (b : Bool) → p y ≡ b → (find (λ (x : X). not (p x)) xs ≡ Some x → IsFirstWithout P xs x) → cond (not b) (Some y) (find (λ (x : X). not (p x)) xs) ≡ Some x → IsFirstWithout P (y ∷ xs) x
  first_if y xs x true is rest found = put_first y xs x (to y is) (rest found)
  first_if y xs x false is rest found = record {
    before = [];
    after = xs;
    listed = ap (λ (z : X). z ∷ xs) (same_Some y x found);
    have = λ z there. absurd (among_contained [] z there);
    without = λ holds. let no : true ≡ false = sym (from x holds) ∙ ap p (sym (same_Some y x found)) ∙ is in cc;
  }

  pub first_without : (xs : List X) (x : X) → find (λ (x : X). not (p x)) xs ≡ Some x → IsFirstWithout P xs x
  first_without [] x found = absurd cc
  first_without (y ∷ xs) x found = first_if y xs x (p y) refl (first_without xs x) found
