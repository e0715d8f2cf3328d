-- Items that are taken off the front of lists, each used for one that comes to the end of another list.
use Rattle.std.proofs.Common.{◌≡◌, List, [], ◌∷◌, ◌++◌, map, sym, ap, ◌∙◌, append_assoc}
use Rattle.std.proofs.lemmas.List.{map-append}

module _ {S Y : Type 0} (f : S → Y) where
  -- what was taken is found in the one that was made of it
  pub one_taken : (done : List S) (s : S) (ys rest : List Y) (y : Y) (all : List Y) → map f done ++ ys ≡ all → ys ≡ y ∷ rest → f s ≡ y →
      map f (done ++ s ∷ []) ++ rest ≡ all
  one_taken done s ys rest y all parts first is =
      ap (λ (l : List Y). l ++ rest) (map-append f done (s ∷ [])) ∙ (append_assoc (map f done) (f s ∷ []) rest
      ∙ (ap (λ (z : Y). map f done ++ (z ∷ rest)) is ∙ (ap (λ (l : List Y). map f done ++ l) (sym first) ∙ parts)))
