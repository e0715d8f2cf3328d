-- What a filter keeps, and lists made of the elements by functions that agree.
use Rattle.std.proofs.Common.{◌≡◌, List, [], ◌∷◌, ◌++◌, map, Bool, true, false, ◌&&◌, cond, Option, inl, inr, refl, ap, ◌∙◌, rules, None}
use Rattle.std.specs.List.{All, cons_option, filter, filter_map, flat_map, list_all, list_any}
use Rattle.std.proofs.lemmas.Bool.{and_parts, or_parts}
use Rattle.std.proofs.lemmas.List.Elements.{filter-append, All-head, All-tail}
use Rattle.plain_laws.proofs.Members.{Among}

pub filter_none : {X : Type 0} (p : X → Bool) (xs : List X) → list_any p xs ≡ false → filter p xs ≡ []
filter_none p [] h = refl
filter_none p (x ∷ xs) h = let no = or_parts (p x) (list_any p xs) h in rw no.0 (filter_none p xs no.1)

-- of what passes a test of all, of none, and in the middle alone
pub filter_all_passing : {X : Type 0} (p : X → Bool) (xs : List X) → All (λ x. p x ≡ true) xs → filter p xs ≡ xs
filter_all_passing p [] all = refl
filter_all_passing p (x ∷ xs) all = rw (All-head (λ x. p x ≡ true) x xs all, filter_all_passing p xs (All-tail (λ x. p x ≡ true) x xs all)) refl

pub filter_all_failing : {X : Type 0} (p : X → Bool) (xs : List X) → All (λ x. p x ≡ false) xs → filter p xs ≡ []
filter_all_failing p [] all = refl
filter_all_failing p (x ∷ xs) all = rw (All-head (λ x. p x ≡ false) x xs all) (filter_all_failing p xs (All-tail (λ x. p x ≡ false) x xs all))

pub filter_middle : {X : Type 0} (p : X → Bool) (front mid back : List X) → All (λ x. p x ≡ false) front → All (λ x. p x ≡ true) mid → All (λ x. p x ≡ false) back → filter p (front ++ (mid ++ back)) ≡ mid
filter_middle p front mid back none all last =
    filter-append p front (mid ++ back) ∙ rw (filter-append p mid back, filter_all_failing p front none, filter_all_passing p mid all, filter_all_failing p back last) (search rules)

-- by a test that everything passes, or nothing
pub filter_always : {X : Type 0} (p : X → Bool) → ((x : X) → p x ≡ true) → (xs : List X) → filter p xs ≡ xs
filter_always p all [] = refl
filter_always p all (x ∷ xs) = rw (all x) (ap (λ (rest : List _). x ∷ rest) (filter_always p all xs))

pub filter_never : {X : Type 0} (p : X → Bool) → ((x : X) → p x ≡ false) → (xs : List X) → filter p xs ≡ []
filter_never p none [] = refl
filter_never p none (x ∷ xs) = rw (none x) (filter_never p none xs)

both_kept : {X : Type 0} (p q : X → Bool) (x : X) (ys zs : List X) (a b : Bool) → p x ≡ a → q x ≡ b → filter p ys ≡ zs → filter p (cond b (x ∷ ys) ys) ≡ cond (b && a) (x ∷ zs) zs
both_kept p q x ys zs true true is other h = rw is (ap (λ (rest : List _). x ∷ rest) h)
both_kept p q x ys zs false true is other h = rw is h
both_kept p q x ys zs a false is other h = h

-- by two tests, one after the other
pub filter_twice : {X : Type 0} (p q : X → Bool) (xs : List X) → filter p (filter q xs) ≡ filter (λ x. q x && p x) xs
filter_twice p q [] = refl
filter_twice p q (x ∷ xs) = both_kept p q x (filter q xs) (filter (λ y. q y && p y) xs) (p x) (q x) refl refl (filter_twice p q xs)

picked_one : {X Y : Type 0} (h : X → Option Y) (x : X) (kept : List X) (b : Bool) → filter_map h (cond b (x ∷ kept) kept) ≡ cons_option (cond b (h x) None) (filter_map h kept)
picked_one h x kept true = refl
picked_one h x kept false = refl

-- what is picked of those that pass a test, and of what is read
pub filter_map_filter : {X Y : Type 0} (p : X → Bool) (h : X → Option Y) (xs : List X) → filter_map h (filter p xs) ≡ filter_map (λ x. cond (p x) (h x) None) xs
filter_map_filter p h [] = refl
filter_map_filter p h (x ∷ xs) = picked_one h x (filter p xs) (p x) ∙ ap (cons_option (cond (p x) (h x) None)) (filter_map_filter p h xs)

pub filter_map_map : {X Y Z : Type 0} (h : Y → Option Z) (f : X → Y) (xs : List X) → filter_map h (map f xs) ≡ filter_map (λ x. h (f x)) xs
filter_map_map h f [] = refl
filter_map_map h f (x ∷ xs) = ap (cons_option (h (f x))) (filter_map_map h f xs)

-- what is made of each element is the element alone, where they pass a test
pub flat_map_itself : {X : Type 0} (p : X → Bool) (f : X → List X) → ((x : X) → p x ≡ true → f x ≡ x ∷ []) → (xs : List X) → list_all p xs ≡ true → flat_map f xs ≡ xs
flat_map_itself p f itself [] all = refl
flat_map_itself {X} p f itself (x ∷ xs) all =
    let parts = and_parts (p x) (list_all p xs) all in
    ap (λ (first : List X). first ++ flat_map f xs) (itself x parts.0) ∙ ap (λ (rest : List X). x ∷ rest) (flat_map_itself p f itself xs parts.1)

-- ---- functions that agree on the elements

pub map_same_among : {X Y : Type 0} (f g : X → Y) (xs : List X) → ((x : X) → Among xs x → f x ≡ g x) → map f xs ≡ map g xs
map_same_among f g [] same = refl
map_same_among f g (x ∷ xs) same = ap (λ (first : _). first ∷ map f xs) (same x (inl refl)) ∙ ap (λ (rest : List _). g x ∷ rest) (map_same_among f g xs (λ y there. same y (inr there)))

pub filter_map_same_among : {X Y : Type 0} (f g : X → Option Y) (xs : List X) → ((x : X) → Among xs x → f x ≡ g x) → filter_map f xs ≡ filter_map g xs
filter_map_same_among f g [] same = refl
filter_map_same_among f g (x ∷ xs) same =
    ap (λ (first : Option _). cons_option first (filter_map f xs)) (same x (inl refl)) ∙ ap (cons_option (g x)) (filter_map_same_among f g xs (λ y there. same y (inr there)))

pub filter_map_same : {X Y : Type 0} (f g : X → Option Y) → ((x : X) → f x ≡ g x) → (xs : List X) → filter_map f xs ≡ filter_map g xs
filter_map_same f g same xs = filter_map_same_among f g xs (λ x there. same x)
