-- Which set a name finds in a table, and what an IRI names that does not begin as a table's do.
use Rattle.std.proofs.Common.{◌≡◌, ℕ, List, [], ◌∷◌, ◌++◌, Bool, true, false, cond, ◌&&◌, ◌||◌, Option, Some, None, find, length, take, drop, take-append-drop, rules, refl, sym, ap, ◌∙◌}
use Rattle.std.proofs.Math.Bool.{beq}
use Rattle.std.specs.List.{list_any}
use Rattle.std.specs.Str.{bytes_eq}
use Rattle.std.proofs.lemmas.Bool.{false_from_ne_true, and_parts}
use Rattle.std.proofs.lemmas.Bool.Decides.{same_from_decides}
use Rattle.std.proofs.lemmas.Slice.Eq.{bytes_eq-Decides}
use Rattle.cim_words.specs.declared.phases.PhaseSet.{PhaseSet}
use Rattle.cim_words.specs.Phases.{phase_text}
use Rattle.cim_words.specs.PhaseNames.{behind}
use Rattle.cim_words.proofs.PhaseTexts.{phase_text-injective}

-- whether two sets hold the same phases
abbrev pub same_set : PhaseSet → PhaseSet → Bool
same_set x y = beq x.a y.a && (beq x.b y.b && (beq x.c y.c && (beq x.n y.n && (beq x.s1 y.s1 && beq x.s2 y.s2))))

same_bit : (a b : Bool) → beq a b ≡ true → a ≡ b
same_bit true true same = refl
same_bit true false same = cc
same_bit false true same = cc
same_bit false false same = refl

same_bits : (x y : PhaseSet) → same_set x y ≡ true → x ≡ y
same_bits x y same i =
    let rest_b = and_parts (beq x.a y.a) _ same in
    let rest_c = and_parts (beq x.b y.b) _ rest_b.1 in
    let rest_n = and_parts (beq x.c y.c) _ rest_c.1 in
    let rest_s = and_parts (beq x.n y.n) _ rest_n.1 in
    let last = and_parts (beq x.s1 y.s1) _ rest_s.1 in
    record {
      a = same_bit x.a y.a rest_b.0 i;
      b = same_bit x.b y.b rest_c.0 i;
      c = same_bit x.c y.c rest_n.0 i;
      n = same_bit x.n y.n rest_s.0 i;
      s1 = same_bit x.s1 y.s1 last.0 i;
      s2 = same_bit x.s2 y.s2 last.1 i;
    }

same_set-self : (x : PhaseSet) → same_set x x ≡ true
same_set-self x = grind rules

-- a set is the one whose text is the name exactly where its text is the name
pub same_text : (x set : PhaseSet) (name : List ℕ) → name ≡ phase_text set → same_set x set ≡ bytes_eq (phase_text x) name
same_text x set name spelled =
    same_from_decides (same_set x set) (bytes_eq (phase_text x) name) (
      λ same. ap phase_text (same_bits x set same) ∙ sym spelled,
      λ same. rw (phase_text-injective x set (same ∙ spelled)) (same_set-self set),
    )
    (bytes_eq-Decides (phase_text x) name)

find_by_set : (all : List PhaseSet) (set : PhaseSet) (name : List ℕ) → name ≡ phase_text set
    → find (λ x. same_set x set) all ≡ find (λ x. bytes_eq (phase_text x) name) all
find_by_set all set name spelled i = find (λ x. same_text x set name spelled i) all

held_at : (b : Bool) (set x : PhaseSet) (rest : Option PhaseSet) (any : Bool) → (b ≡ true → x ≡ set) → (b || any) ≡ true
    → (any ≡ true → Some set ≡ rest) → Some set ≡ cond b (Some x) rest
held_at true set x rest any same held later = ap Some (sym (same refl))
held_at false set x rest any same held later = later held

find_held : (all : List PhaseSet) (set : PhaseSet) → list_any (λ x. same_set x set) all ≡ true → Some set ≡ find (λ x. same_set x set) all
find_held [] set held = cc
find_held (x ∷ all) set held =
    held_at (same_set x set) set x (find (λ y. same_set y set) all) (list_any (λ y. same_set y set) all) (same_bits x set) held (find_held all set)

not_held_at : (b : Bool) (x : PhaseSet) (rest : Option PhaseSet) (any : Bool) → (b || any) ≡ false → (any ≡ false → None ≡ rest) → None ≡ cond b (Some x) rest
not_held_at true x rest any none later = cc
not_held_at false x rest any none later = later none

find_not_held : (all : List PhaseSet) (set : PhaseSet) → list_any (λ x. same_set x set) all ≡ false → None ≡ find (λ x. same_set x set) all
find_not_held [] set none = refl
find_not_held (x ∷ all) set none =
    not_held_at (same_set x set) x (find (λ y. same_set y set) all) (list_any (λ y. same_set y set) all) none (find_not_held all set)

pub find_named : (all : List PhaseSet) (set : PhaseSet) (name : List ℕ) → name ≡ phase_text set → list_any (λ x. same_set x set) all ≡ true
    → Some set ≡ find (λ x. bytes_eq (phase_text x) name) all
find_named all set name spelled held = rw (← find_by_set all set name spelled) (find_held all set held)

pub find_other : (all : List PhaseSet) (set : PhaseSet) (name : List ℕ) → name ≡ phase_text set → list_any (λ x. same_set x set) all ≡ false
    → None ≡ find (λ x. bytes_eq (phase_text x) name) all
find_other all set name spelled none = rw (← find_by_set all set name spelled) (find_not_held all set none)

-- a name that is the text of no set finds none
pub find_unnamed : (all : List PhaseSet) (name : List ℕ) → ((set : PhaseSet) → name ≡ phase_text set → ⊥)
    → None ≡ find (λ x. bytes_eq (phase_text x) name) all
find_unnamed [] name none = refl
find_unnamed (set ∷ sets) name none =
    let other : bytes_eq (phase_text set) name ≡ false =
    false_from_ne_true (bytes_eq (phase_text set) name) (λ same. none set (sym ((bytes_eq-Decides (phase_text set) name).0 same))) in
    rw other (find_unnamed sets name none)

-- nothing follows a prefix with which a text does not begin
pub behind_other : (prefix text : List ℕ) → ((rest : List ℕ) → text ≡ prefix ++ rest → ⊥) → behind prefix text ≡ None
behind_other prefix text other =
    let none : bytes_eq (take (length prefix) text) prefix ≡ false =
    false_from_ne_true (bytes_eq (take (length prefix) text) prefix)
    (λ same. other (drop (length prefix) text) (sym (take-append-drop (length prefix) text) ∙ ap (λ (front : List ℕ). front ++ drop (length prefix) text) ((bytes_eq-Decides (take (length prefix) text) prefix).0 same))) in
    rw none refl
