-- Sets of phases, and their unions.
use Rattle.std.proofs.Common.{◌≡◌, ℕ, ◌+◌, ◌<◌, List, [], ◌∷◌, ◌++◌, map, length, take, get_or, Bool, false, ◌||◌, Option, Some, None, refl, ap, sym, ◌∙◌}
use Rattle.std.specs.List.{list_any}
use Rattle.std.proofs.lemmas.List.{map-append, take_more}
use Rattle.std.proofs.lemmas.List.Folds.{list_any-append}
use Rattle.std.proofs.Math.Bool.{or-false, or_assoc}
use Rattle.cim_words.specs.Phases.{has_phase}
use Rattle.cim_words.specs.declared.phases.Phase.{Phase}
use Rattle.cim_words.specs.declared.phases.Phase.TheVariants as phase
use Rattle.cim_words.specs.declared.phases.PhaseSet.{PhaseSet}
use Rattle.cim_model.specs.Network.{union_or}
use Rattle.cim_model.specs.Phases.{set_of, union}
use Rattle.cim_records.specs.Joined.{join_all, join_one}
use Rattle.cim_records.specs.Tables.{union_of}

-- a set is told by its phases
pub set_is : (set : PhaseSet) (test : Phase → Bool) → ((p : Phase) → has_phase set p ≡ test p) → set ≡ set_of test
set_is set test has = λ i. record { a = has phase.A i; b = has phase.B i; c = has phase.C i; n = has phase.N i; s1 = has phase.S1 i; s2 = has phase.S2 i }

pub same_sets : (test other : Phase → Bool) → ((p : Phase) → test p ≡ other p) → set_of test ≡ set_of other
same_sets test other same = λ i. record { a = same phase.A i; b = same phase.B i; c = same phase.C i; n = same phase.N i; s1 = same phase.S1 i; s2 = same phase.S2 i }

-- what a set of the phases that pass a test has
pub has_of : (test : Phase → Bool) (p : Phase) → has_phase (set_of test) p ≡ test p
has_of test phase.A = refl
has_of test phase.B = refl
has_of test phase.C = refl
has_of test phase.N = refl
has_of test phase.S1 = refl
has_of test phase.S2 = refl

abbrev any : List PhaseSet → Phase → Bool
any sets p = list_any (λ set. has_phase set p) sets

-- joining sets to a set adds their union
joined_to : (set : PhaseSet) (sets : List PhaseSet) → join_all (Some set) sets ≡ Some (set_of (λ p. has_phase set p || any sets p))
joined_to set [] = ap (λ (s : PhaseSet). Some s) (set_is set (λ p. has_phase set p || false) (λ p. sym (or-false (has_phase set p))))
joined_to set (next ∷ sets) =
    joined_to (join_one (Some set) next) sets
    ∙ ap (λ (s : PhaseSet). Some s) (same_sets _ _ (λ p. ap (λ (b : Bool). b || any sets p) (has_of (λ q. has_phase set q || has_phase next q) p) ∙ or_assoc (has_phase set p) (has_phase next p) (any sets p)))

-- and joining them to none is their union
pub joined_is : (sets : List PhaseSet) → join_all None sets ≡ union_of sets
joined_is [] = refl
joined_is (set ∷ sets) = joined_to set sets

-- sets of one list after those of another
pub join_append : (joined : Option PhaseSet) (sets more : List PhaseSet) → join_all joined (sets ++ more) ≡ join_all (join_all joined sets) more
join_append joined [] more = refl
join_append joined (set ∷ sets) more = join_append (Some (join_one joined set)) sets more

-- the union of one set more
pub union_more : {X : Type 0} (f : X → PhaseSet) (xs : List X) (i : ℕ) (d : X) (phases next : PhaseSet) → i < length xs → phases ≡ union (map f (take i xs)) → next ≡ f (get_or xs i d)
    → (p : Phase) → (has_phase phases p || has_phase next p) ≡ any (map f (take (i + 1) xs)) p
union_more f xs i d phases next within is last p =
    ap (λ (b : Bool). b || has_phase next p) (ap (λ (s : PhaseSet). has_phase s p) is ∙ has_of (any (map f (take i xs))) p)
    ∙ ap (λ (s : PhaseSet). any (map f (take i xs)) p || has_phase s p) last
    ∙ ap (λ (b : Bool). any (map f (take i xs)) p || b) (sym (or-false (has_phase (f (get_or xs i d)) p)))
    ∙ sym (list_any-append (λ set. has_phase set p) (map f (take i xs)) (f (get_or xs i d) ∷ []))
    ∙ ap (λ (sets : List PhaseSet). any sets p) (sym (ap (map f) (take_more xs i d within) ∙ map-append f (take i xs) (get_or xs i d ∷ [])))

-- where no set is stated, another stands for the union
pub none_stated : (sets : List PhaseSet) (other : PhaseSet) → union_of sets ≡ None → union_or sets other ≡ other
none_stated [] other none = refl
none_stated (set ∷ sets) other none = absurd cc
