-- The list of a model's subjects.
use Rattle.std.proofs.Common.{◌≡◌, ℕ, List, [], ◌∷◌, Bool, true, false, ◌||◌, ◌==◌, nat_eq, cond, Contains, refl, sym, ◌∙◌, subst}
use Rattle.std.specs.List.{IsDistinct, list_any}
use Rattle.std.proofs.lemmas.Bool.{eqb-true}
use Rattle.plain_laws.proofs.Each.{each_from_among}
use Rattle.plain_laws.proofs.Members.{Among, among_contained, contains_among}
use Rattle.plain_laws.proofs.Numbers.{equal_itself, equal_turned}
use Rattle.plain_laws.proofs.Tests.{among_any, any_among, none_among}
use Rattle.cim_words.specs.declared.statement.Statement.{Statement}
use Rattle.cim_model.specs.Model.{is_subject, subjects}

subject_again : (x y : ℕ) (rest : List Statement) → is_subject rest y ≡ true → is_subject rest x ≡ ((y == x) || is_subject rest x)
subject_again x y rest again = again_at x y rest (y == x) refl again
  where
    again_at : (x y : ℕ) (rest : List Statement) (b : Bool) → (y == x) ≡ b → is_subject rest y ≡ true → is_subject rest x ≡ (b || is_subject rest x)
    again_at x y rest true is again = rw (sym (eqb-true y x is)) again
    again_at x y rest false is again = refl

among_one : (x y : ℕ) (rest : List Statement) (b : Bool) → is_subject rest y ≡ b → list_any (nat_eq x) (subjects rest) ≡ is_subject rest x
    → list_any (nat_eq x) (cond b (subjects rest) (y ∷ subjects rest)) ≡ ((y == x) || is_subject rest x)
among_one x y rest true is among = among ∙ subject_again x y rest is
among_one x y rest false is among = rw (equal_turned x y, among) refl

pub listed_as_subject : (x : ℕ) (m : List Statement) → list_any (nat_eq x) (subjects m) ≡ is_subject m x
listed_as_subject x [] = refl
listed_as_subject x (s ∷ rest) = among_one x s.subject.number rest (is_subject rest s.subject.number) refl (listed_as_subject x rest)

pub listed_subject : (m : List Statement) (x : ℕ) → Contains (subjects m) x → is_subject m x ≡ true
listed_subject m x there = sym (listed_as_subject x m) ∙ among_any (nat_eq x) (subjects m) x (among_contained (subjects m) x there) (equal_turned x x ∙ equal_itself x)

pub subject_listed : (m : List Statement) (x : ℕ) → is_subject m x ≡ true → Contains (subjects m) x
subject_listed m x subject =
    let y = any_among (nat_eq x) (subjects m) (listed_as_subject x m ∙ subject) in
    contains_among (subjects m) x (subst (Among (subjects m)) (sym (eqb-true x y.0 y.2)) y.1)

-- each subject is listed once
distinct_one : (y : ℕ) (rest : List Statement) (b : Bool) → is_subject rest y ≡ b → IsDistinct nat_eq (subjects rest) → IsDistinct nat_eq (cond b (subjects rest) (y ∷ subjects rest))
unfolding IsDistinct
distinct_one y rest true is distinct = distinct
distinct_one y rest false is distinct = (each_from_among (λ x. nat_eq y x ≡ false) (subjects rest) (λ x there. none_among (nat_eq y) (subjects rest) x (listed_as_subject y rest ∙ is) there), distinct)

pub distinct_subjects : (m : List Statement) → IsDistinct nat_eq (subjects m)
unfolding IsDistinct
distinct_subjects [] = tt
distinct_subjects (s ∷ rest) = distinct_one s.subject.number rest (is_subject rest s.subject.number) refl (distinct_subjects rest)
