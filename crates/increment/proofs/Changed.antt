-- Lists whose elements are changed, where the change keeps what a test asks of each and what is made of it.
use Rattle.std.proofs.Common.{◌≡◌, List, [], ◌∷◌, ◌++◌, map, Bool, true, false, cond, Option, Some, None, option_map, find, refl, ap₂, sym, ◌∙◌}
use Rattle.std.specs.List.{filter, filter_map, flat_map, list_any}
use Rattle.plain_laws.proofs.Filters.{filter_map_filter, filter_map_map, filter_map_same}
use Rattle.plain_laws.proofs.Tests.{any_map, any_same}

-- the first that passes is the one that did, changed
found_one : {X : Type 0} (f : X → X) (x : X) (rest : Option X) (b : Bool) → cond b (Some (f x)) (option_map f rest) ≡ option_map f (cond b (Some x) rest)
found_one f x rest true = refl
found_one f x rest false = refl

pub find_changed : {X : Type 0} (p : X → Bool) (f : X → X) → ((x : X) → p (f x) ≡ p x) → (xs : List X) → find p (map f xs) ≡ option_map f (find p xs)
find_changed p f asks [] = refl
find_changed p f asks (x ∷ xs) =
    ap₂ (λ (b : Bool) (rest : Option _). cond b (Some (f x)) rest) (asks x) (find_changed p f asks xs) ∙ found_one f x (find p xs) (p x)

-- one passes where one did
pub any_changed : {X : Type 0} (p : X → Bool) (f : X → X) → ((x : X) → p (f x) ≡ p x) → (xs : List X) → list_any p (map f xs) ≡ list_any p xs
any_changed p f asks xs = any_map p f xs ∙ any_same (λ x. p (f x)) p asks xs

-- what is picked of those that pass is the same, and what is made of each
pub filter_map_changed : {X Y : Type 0} (h : X → Option Y) (p : X → Bool) (f : X → X) → ((x : X) → p (f x) ≡ p x) → ((x : X) → h (f x) ≡ h x) → (xs : List X)
    → filter_map h (filter p (map f xs)) ≡ filter_map h (filter p xs)
filter_map_changed h p f asks picks xs =
    filter_map_filter p h (map f xs) ∙ filter_map_map (λ x. cond (p x) (h x) None) f xs
    ∙ filter_map_same (λ x. cond (p (f x)) (h (f x)) None) (λ x. cond (p x) (h x) None) (λ x. ap₂ (λ (b : Bool) (found : Option _). cond b found None) (asks x) (picks x)) xs
    ∙ sym (filter_map_filter p h xs)

pub flat_map_changed : {X Y : Type 0} (g : X → List Y) (f : X → X) → ((x : X) → g (f x) ≡ g x) → (xs : List X) → flat_map g (map f xs) ≡ flat_map g xs
flat_map_changed g f makes [] = refl
flat_map_changed g f makes (x ∷ xs) = ap₂ (λ (first rest : List _). first ++ rest) (makes x) (flat_map_changed g f makes xs)
