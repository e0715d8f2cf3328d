-- Members among the entries of places.
use Rattle.std.proofs.Common.{◌≡◌, ℕ, Bool, true, false, cond, List, [], ◌∷◌, length, Option, None, Some, refl, sym, ap, ◌∙◌, arith}
use Rattle.std.specs.List.{sum_by}
use Rattle.std.specs.Map.{lookup}
use Rattle.std.specs.Option.{option_map}
use Rattle.std.proofs.lemmas.List.Sums.{sum_by-cons}
use Rattle.graph_pages.specs.Keyed.{item_at, size_in}
use Rattle.room_words.proofs.Compared.{same_anchor_laws}
use Rattle.room_words.specs.Terms.{same_anchor}
use Rattle.room_words.specs.declared.anchor.Anchor.{Anchor}

-- the entry of a place
abbrev pub entry_at : {X : Type 0} → Anchor → List (Anchor × X) → Option (Anchor × X)
entry_at {X} place entries = item_at (λ (entry : Anchor × X). entry.0) same_anchor place entries

value_of : {X Y : Type 0} (f : X → Y) (c : Bool) (x : X) (o : Option X) → cond c (Some (f x)) (option_map f o) ≡ option_map f (cond c (Some x) o)
value_of f true x o = refl
value_of f false x o = refl

-- the members of a place are those of its entry
pub members_are : {X : Type 0} (entries : List (Anchor × X)) (place : Anchor) → lookup (same_anchor place) entries ≡ option_map (λ (entry : Anchor × X). entry.1) (entry_at place entries)
members_are [] place = refl
members_are {X} (e ∷ es) place =
    ap (λ c. cond c (Some e.1) (lookup (same_anchor place) es)) (same_anchor_laws.symm place e.0)
    ∙ ap (cond (same_anchor e.0 place) (Some e.1)) (members_are es place)
    ∙ value_of (λ (entry : Anchor × X). entry.1) (same_anchor e.0 place) e (entry_at place es)

-- places whose entries are found as before have the members that they had
pub members_same : {X : Type 0} (new old : List (Anchor × X)) → ((k : Anchor) → entry_at k new ≡ entry_at k old) → (k : Anchor) → lookup (same_anchor k) new ≡ lookup (same_anchor k) old
members_same {X} new old found k =
    members_are new k ∙ ap (option_map (λ (entry : Anchor × X). entry.1)) (found k) ∙ sym (members_are old k)

-- where another entry is found at one place, there are other members at that place
change_of : {X Y : Type 0} (f : X → Y) (c : Bool) (change o : Option X) → option_map f (cond c change o) ≡ cond c (option_map f change) (option_map f o)
change_of f true change o = refl
change_of f false change o = refl

pub members_change : {X : Type 0} (new old : List (Anchor × X)) (place : Anchor) (change : Option (Anchor × X)) → ((k : Anchor) → entry_at k new ≡ cond (same_anchor place k) change (entry_at k old))
    → (k : Anchor) → lookup (same_anchor k) new ≡ cond (same_anchor place k) (option_map (λ (entry : Anchor × X). entry.1) change) (lookup (same_anchor k) old)
members_change {X} new old place change found k =
    members_are new k
    ∙ ap (option_map (λ (entry : Anchor × X). entry.1)) (found k)
    ∙ change_of (λ (entry : Anchor × X). entry.1) (same_anchor place k) change (entry_at k old)
    ∙ ap (cond (same_anchor place k) (option_map (λ (entry : Anchor × X). entry.1) change)) (sym (members_are old k))

-- each counts for one place, and for no spoke
pub ones : {X : Type 0} (xs : List X) → sum_by (λ x. 1) xs ≡ length xs
ones [] = refl
ones (x ∷ xs) = omega (arith, sum_by-cons (λ x. 1) x xs, ones xs)

pub none_in : {X : Type 0} (o : Option X) → size_in (λ x. 0) o ≡ 0
none_in None = refl
none_in (Some x) = refl
