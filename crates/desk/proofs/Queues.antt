-- Lists whose items are taken from the front, one after the other.
use Rattle.std.proofs.Common.{◌≡◌, ℕ, zero, suc, ◌+◌, ◌<◌, List, [], ◌∷◌, ◌++◌, length, map, take, drop, All, Some, IfSome, slice_get, slice_index_or, refl, ap, sym, subst, ◌∙◌, arith}
use Rattle.std.proofs.lemmas.List.{append-nil}
use Rattle.std.proofs.lemmas.List.Elements.{All-head, All-tail, All-cons, All-nil}

module _ {X : Type 0} where
  -- the first item and the others
  pub first_off : (xs rest : List X) (x : X) → 0 < length xs → x ≡ slice_index_or xs 0 x → rest ≡ take 0 xs ++ drop (0 + 1) xs → xs ≡ x ∷ rest
  first_off [] rest x some is others = absurd (omega arith)
  first_off (y ∷ ys) rest x some is others = ap (λ (z : X). z ∷ ys) (sym is) ∙ ap (λ (zs : List X). x ∷ zs) (sym others)

  pub nothing : (xs : List X) → length xs ≡ 0 → xs ≡ []
  nothing [] none = refl
  nothing (x ∷ xs) none = absurd (omega (arith, none))

  pub all_taken : (all done rest : List X) → all ≡ done ++ rest → length rest ≡ 0 → all ≡ done
  all_taken all done rest is none = is ∙ ap (λ (xs : List X). done ++ xs) (nothing rest none) ∙ append-nil done

  -- what stands behind others
  pub all_behind : (P : X → Type 0) (done : List X) (x : X) (rest : List X) → All P (done ++ x ∷ rest) → P x
  all_behind P [] x rest each = All-head P x rest each
  all_behind P (y ∷ done) x rest each = all_behind P done x rest (All-tail P y (done ++ x ∷ rest) each)

  pub get_behind : (done : List X) (x : X) (rest : List X) → slice_get (done ++ x ∷ rest) (length done) ≡ Some x
  get_behind [] x rest = refl
  get_behind (y ∷ done) x rest = get_behind done x rest

  -- an item at a place
  pub get_all : (P : X → Type 0) (xs : List X) (index : ℕ) (x : X) → All P xs → slice_get xs index ≡ Some x → P x
  get_all P [] index x each is = absurd cc
  get_all P (y ∷ ys) zero x each is = let same : y ≡ x = cc in subst P same (All-head P y ys each)
  get_all P (y ∷ ys) (suc index) x each is = get_all P ys index x (All-tail P y ys each) is

  pub get_within : (xs : List X) (index : ℕ) (x : X) → slice_get xs index ≡ Some x → index < length xs
  get_within [] index x is = absurd cc
  get_within (y ∷ ys) zero x is = omega arith
  get_within (y ∷ ys) (suc index) x is = let rest = get_within ys index x is in omega (arith, rest)

  pub all_from_get : (P : X → Type 0) (xs : List X) → ((index : ℕ) (x : X) → slice_get xs index ≡ Some x → P x) → All P xs
  all_from_get P [] each = All-nil P
  all_from_get P (x ∷ xs) each = All-cons P x xs (each 0 x refl) (all_from_get P xs (λ index y is. each (suc index) y is))

module _ {X Y : Type 0} (f : X → Y) where
  pub get_map : (xs : List X) (index : ℕ) (x : X) → slice_get xs index ≡ Some x → slice_get (map f xs) index ≡ Some (f x)
  get_map [] index x is = absurd cc
  get_map (y ∷ ys) zero x is = let same : y ≡ x = cc in ap (λ (z : X). Some (f z)) same
  get_map (y ∷ ys) (suc index) x is = get_map ys index x is

  pub get_mapped : (Q : X → Type 0) (xs : List X) (index : ℕ) (y : Y) → slice_get (map f xs) index ≡ Some y → All Q xs → IfSome (slice_get xs index) (λ x. (f x ≡ y) × Q x)
  get_mapped Q [] index y is each = absurd cc
  get_mapped Q (x ∷ xs) zero y is each = let same : f x ≡ y = cc in (same, All-head Q x xs each)
  get_mapped Q (x ∷ xs) (suc index) y is each = get_mapped Q xs index y is (All-tail Q x xs each)

  -- what holds of the images of all holds of the images of each
  pub all_of_map : (P : Y → Type 0) (xs : List X) → All P (map f xs) → All (λ x. P (f x)) xs
  all_of_map P [] each = All-nil (λ (x : X). P (f x))
  all_of_map P (x ∷ xs) each = All-cons (λ (z : X). P (f z)) x xs (All-head P (f x) (map f xs) each) (all_of_map P xs (All-tail P (f x) (map f xs) each))
