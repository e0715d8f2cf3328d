-- What holds of each element of a list, by recursion over it and by membership.
use Rattle.std.proofs.Common.{inl, inr, List, [], ◌∷◌, ◌++◌, map, refl, subst}
use Rattle.std.specs.Prelude.{Contains}
use Rattle.std.specs.List.{All, AllByRecursion, flat_map}
use Rattle.std.proofs.lemmas.List.Elements.{All-contains}
use Rattle.plain_laws.proofs.Members.{Among, among_index, contains_among, flat_map_among}

pub each_from_among : {X : Type 0} (P : X → Type 0) (xs : List X) → ((x : X) → Among xs x → P x) → AllByRecursion P xs
each_from_among P [] each = tt
each_from_among P (x ∷ xs) each = (each x (inl refl), each_from_among P xs (λ y there. each y (inr there)))

pub each_among : {X : Type 0} (P : X → Type 0) (xs : List X) (x : X) → AllByRecursion P xs → Among xs x → P x
each_among P [] x all there = absurd there
each_among P (y ∷ xs) x all (inl is) = subst P is all.0
each_among P (y ∷ xs) x all (inr there) = each_among P xs x all.1 there

-- of what is read of the elements
pub each_read : {X Y : Type 0} (P : Y → Type 0) (f : X → Y) (xs : List X) (x : X) → AllByRecursion P (map f xs) → Among xs x → P (f x)
each_read P f [] x all there = absurd there
each_read P f (y ∷ xs) x all (inl is) = subst (λ (z : _). P (f z)) is all.0
each_read P f (y ∷ xs) x all (inr there) = each_read P f xs x all.1 there

-- of two lists end to end
pub each_append : {X : Type 0} (P : X → Type 0) (xs ys : List X) → AllByRecursion P xs → AllByRecursion P ys → AllByRecursion P (xs ++ ys)
each_append P [] ys first second = second
each_append P (x ∷ xs) ys first second = (first.0, each_append P xs ys first.1 second)

pub each_push : {X : Type 0} (P : X → Type 0) (xs : List X) (x : X) → AllByRecursion P xs → P x → AllByRecursion P (xs ++ x ∷ [])
each_push P xs x all one = each_append P xs (x ∷ []) all (one, tt)

pub each_weaker : {X : Type 0} (P Q : X → Type 0) (xs : List X) → ((x : X) → P x → Q x) → AllByRecursion P xs → AllByRecursion Q xs
each_weaker P Q [] weaker all = tt
each_weaker P Q (x ∷ xs) weaker all = (weaker x all.0, each_weaker P Q xs weaker all.1)

-- the same of std's All
pub all_from_among : {X : Type 0} (P : X → Type 0) (xs : List X) → ((x : X) → Among xs x → P x) → All P xs
all_from_among P xs each k d below = each _ (among_index xs k d below)

pub all_flat_map : {X Y : Type 0} (P : Y → Type 0) (f : X → List Y) (xs : List X) → ((x : X) → Contains xs x → All P (f x)) → All P (flat_map f xs)
all_flat_map P f xs each = all_from_among P (flat_map f xs) (λ y there.
    let from = flat_map_among f xs y there in
    All-contains P (f from.0) y (each from.0 (contains_among xs from.0 from.1)) (contains_among (f from.0) y from.2))
