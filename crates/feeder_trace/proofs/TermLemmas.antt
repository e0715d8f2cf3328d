-- A test that agrees with that of terminals is an equality.
use Rattle.std.proofs.Common.{List, Contains, ◌≡◌, Bool, true, false, sym, ap, ◌∙◌, subst, true≢false}
use Rattle.std.specs.List.{list_any}
use Rattle.std.specs.Cmp.{IsEquivalence, both_ways}
use Rattle.room_words.proofs.Compared.{term_exact, term_itself}
use Rattle.plain_laws.proofs.Members.{Among, among_contained, contains_among}
use Rattle.plain_laws.proofs.Tests.{among_any, any_among}
use Rattle.room_words.specs.Terms.{same_term}
use Rattle.room_words.specs.declared.term.Term.{Term}

module _ (eq : Term → Term → Bool) (agrees : (t u : Term) → eq t u ≡ same_term t u) where
  pub exact_by : (t u : Term) → eq t u ≡ true → t ≡ u
  exact_by t u h = term_exact t u (sym (agrees t u) ∙ h)

  pub refl_by : (t : Term) → eq t t ≡ true
  refl_by t = agrees t t ∙ term_itself t

  flips : (t u : Term) → eq t u ≡ true → eq u t ≡ true
  flips t u h = subst (λ (v : Term). eq v t ≡ true) (exact_by t u h) (refl_by t)

  pub laws_by : IsEquivalence eq
  laws_by = record {
    refl = refl_by;
    symm = λ t u. both_ways (eq t u) (eq u t) (flips t u) (flips u t);
    congr = λ t u v h. ap (λ (w : Term). eq w v) (exact_by t u h);
  }

  pub contains_by : (ts : List Term) (t : Term) → list_any (λ u. eq u t) ts ≡ true → Contains ts t
  contains_by ts t h =
      let from = any_among (λ u. eq u t) ts h in
      contains_among ts t (subst (Among ts) (exact_by from.0 t from.2) from.1)

  present_by : (ts : List Term) (t : Term) → Contains ts t → list_any (λ u. eq u t) ts ≡ true
  present_by ts t has = among_any (λ u. eq u t) ts t (among_contained ts t has) (refl_by t)

  pub absent_by : (ts : List Term) (t : Term) → list_any (λ u. eq u t) ts ≡ false → Contains ts t → ⊥
  absent_by ts t none has = true≢false (sym (present_by ts t has) ∙ none)
