-- Lists of which only some elements are kept: a test that only these pass finds the same in them.
use Rattle.std.proofs.Common.{◌≡◌, List, [], ◌∷◌, ◌++◌, Bool, true, false, cond, Option, Some, None, find, inl, inr, refl, ap, sym, ◌∙◌}
use Rattle.std.specs.Cmp.{both_ways}
use Rattle.std.specs.List.{filter, filter_map, flat_map, list_any}
use Rattle.plain_laws.proofs.Filters.{filter_map_filter, filter_map_same_among}
use Rattle.plain_laws.proofs.Members.{Among, among_filter, among_filter_passes, filter_among}
use Rattle.plain_laws.proofs.Options.{find_among}
use Rattle.plain_laws.proofs.Tests.{among_any, any_among}
use Rattle.plain_laws.proofs.Truth.{never_both}

-- all elements of a list that pass a test are kept
abbrev pub AreKept : {X : Type 0} → (X → Bool) → (X → Bool) → List X → Type 0
AreKept {X} p kept xs = (x : X) → Among xs x → p x ≡ true → kept x ≡ true

-- ---- the first that passes

find_one : {X : Type 0} (p : X → Bool) (x : X) (rest : List X) (first : Option X) (b c : Bool) → p x ≡ c → (c ≡ true → b ≡ true) → find p rest ≡ first
    → find p (cond b (x ∷ rest) rest) ≡ cond c (Some x) first
find_one p x rest first true true is kept same = rw is refl
find_one p x rest first true false is kept same = rw is same
find_one p x rest first false true is kept same = absurd (never_both false (kept refl) refl)
find_one p x rest first false false is kept same = same

pub find_kept : {X : Type 0} (p kept : X → Bool) (xs : List X) → AreKept p kept xs → find p (filter kept xs) ≡ find p xs
find_kept p kept [] are = refl
find_kept p kept (x ∷ xs) are = find_one p x (filter kept xs) (find p xs) (kept x) (p x) refl (are x (inl refl)) (find_kept p kept xs (λ y there. are y (inr there)))

-- and there is none where none that passes is kept
gone_if : {X : Type 0} (p kept : X → Bool) (xs : List X) → ((x : X) → p x ≡ true → kept x ≡ false) → (found : Option X) → find p (filter kept xs) ≡ found → found ≡ None
gone_if p kept xs gone None is = refl
gone_if p kept xs gone (Some x) is =
    let there = find_among p (filter kept xs) x is in
    absurd (never_both (kept x) (among_filter_passes kept xs x there.0) (gone x there.1))

pub find_gone : {X : Type 0} (p kept : X → Bool) (xs : List X) → ((x : X) → p x ≡ true → kept x ≡ false) → find p (filter kept xs) ≡ None
find_gone p kept xs gone = gone_if p kept xs gone (find p (filter kept xs)) refl

-- ---- whether one passes

pub any_kept : {X : Type 0} (p kept : X → Bool) (xs : List X) → AreKept p kept xs → list_any p (filter kept xs) ≡ list_any p xs
any_kept p kept xs are =
    both_ways (list_any p (filter kept xs)) (list_any p xs)
    (λ any. let x = any_among p (filter kept xs) any in among_any p xs x.0 (filter_among kept xs x.0 x.1) x.2)
    (λ any. let x = any_among p xs any in among_any p (filter kept xs) x.0 (among_filter kept xs x.0 x.1 (are x.0 x.1 x.2)) x.2)

-- ---- what is picked of those that pass

picked_one : {Y : Type 0} (b c : Bool) (found : Option Y) → (c ≡ true → b ≡ true) → cond b (cond c found None) None ≡ cond c found None
picked_one true c found kept = refl
picked_one false true found kept = absurd (never_both false (kept refl) refl)
picked_one false false found kept = refl

pub filter_map_kept : {X Y : Type 0} (h : X → Option Y) (p kept : X → Bool) (xs : List X) → AreKept p kept xs → filter_map h (filter p (filter kept xs)) ≡ filter_map h (filter p xs)
filter_map_kept h p kept xs are =
    filter_map_filter p h (filter kept xs) ∙ filter_map_filter kept (λ x. cond (p x) (h x) None) xs
    ∙ filter_map_same_among (λ x. cond (kept x) (cond (p x) (h x) None) None) (λ x. cond (p x) (h x) None) xs (λ x there. picked_one (kept x) (p x) (h x) (are x there))
    ∙ sym (filter_map_filter p h xs)

-- ---- what is made of each, where those that are not kept make nothing

flat_one : {X Y : Type 0} (f : X → List Y) (x : X) (rest : List X) (made : List Y) (b : Bool) → (b ≡ false → f x ≡ []) → flat_map f rest ≡ made → flat_map f (cond b (x ∷ rest) rest) ≡ f x ++ made
flat_one f x rest made true none same = ap (λ (ys : List _). f x ++ ys) same
flat_one f x rest made false none same = same ∙ ap (λ (ys : List _). ys ++ made) (sym (none refl))

pub flat_map_kept : {X Y : Type 0} (f : X → List Y) (kept : X → Bool) (xs : List X) → ((x : X) → Among xs x → kept x ≡ false → f x ≡ []) → flat_map f (filter kept xs) ≡ flat_map f xs
flat_map_kept f kept [] none = refl
flat_map_kept f kept (x ∷ xs) none =
    flat_one f x (filter kept xs) (flat_map f xs) (kept x) (none x (inl refl)) (flat_map_kept f kept xs (λ y there. none y (inr there)))
