-- A word spells one value of a form, and words spell one list of values of their forms.
use Rattle.std.proofs.Common.{◌≡◌, ◌+◌, ◌≤◌, ◌==◌, ℕ, suc, true, false, List, [], ◌∷◌, ◌++◌, map, length, get_or, inl, inr, arith, refl, sym, ap, ap₂, ◌∙◌, subst}
use Rattle.std.specs.Prelude.{codes}
use Rattle.std.proofs.lemmas.Fmt.{decimal_injective}
use Rattle.std.proofs.lemmas.List.{append_cancel_left, append_cancel_right}
use Rattle.std.proofs.lemmas.Option.{same_Some}
use Rattle.cim_words.specs.declared.identifier.Id.{Id}
use Rattle.cim_words.specs.declared.length.Length.{Length}
use Rattle.cim_words.specs.declared.phases.PhaseSet.{PhaseSet}
use Rattle.cim_words.proofs.PhaseTexts.{phase_text-injective}
use Rattle.room_words.specs.declared.anchor.Anchor.{Anchor}
use Rattle.room_words.specs.declared.anchor.Anchor.TheVariants as anchor
use Rattle.wire.specs.Values.{AreSpelled, FirstBad, Form, Spells, SpellsAnchor, SpellsId, SpellsNumber, Value, anchored, form_of, long, most_entries, most_millimetres, named, phased, seen}

-- ---- one word

one_id : (i j : Id) (word : List ℕ) → SpellsId i word → SpellsId j word → i ≡ j
one_id i j word p q k = record { number = same_Some i.number j.number (sym p ∙ q) k }

one_number : (most m n : ℕ) (word : List ℕ) → most ≤ 9999999999999 → SpellsNumber most m word → SpellsNumber most n word → m ≡ n
one_number most m n word small p q = decimal_injective m n (omega (arith, p.1)) (omega (arith, q.1)) (sym p.0 ∙ q.0)

named_one : (x y : Id) (word : List ℕ) → Spells (named x) word → Spells (named y) word → named x ≡ named y
named_one x y word p q = ap named (one_id x y word p q)

long_one : (x y : Length) (word : List ℕ) → Spells (long x) word → Spells (long y) word → long x ≡ long y
long_one x y word p q =
    let far : x ≡ y = λ k. record { mm = one_number most_millimetres x.mm y.mm word (omega arith) p q k } in
    ap long far

seen_one : (x y : ℕ) (word : List ℕ) → Spells (seen x) word → Spells (seen y) word → seen x ≡ seen y
seen_one x y word p q = ap seen (one_number most_entries x y word (omega arith) p q)

-- (that a text is of one set of phases is a lemma of the crate of words, which has no law that says it)
phased_one : (x y : PhaseSet) (word : List ℕ) → Spells (phased x) word → Spells (phased y) word → phased x ≡ phased y
phased_one x y word p q = ap phased (phase_text-injective x y (sym p ∙ q))

-- a text with a mark behind it tells the mark
abbrev last_of : List ℕ → ℕ
last_of [] = 0
last_of (x ∷ []) = x
last_of (x ∷ y ∷ ys) = last_of (y ∷ ys)

last_behind : (a : List ℕ) (x y : ℕ) → last_of (a ++ x ∷ y ∷ []) ≡ y
last_behind [] x y = refl
last_behind (c ∷ []) x y = refl
last_behind (c ∷ d ∷ a) x y = last_behind (d ∷ a) x y

other_end : (a b : List ℕ) → a ++ codes ":1" ≡ b ++ codes ":2" → ⊥
other_end a b same =
    let ends : ◌≡◌ {A = ℕ} 49 50 = sym (last_behind a 58 49) ∙ ap last_of same ∙ last_behind b 58 50 in
    let differ : true ≡ false = ap (λ (m : ℕ). m == 49) ends in
    absurd cc

one_side : (i j : Id) (s t : ℕ) (word : List ℕ) → SpellsAnchor (anchor.Side i s) word → SpellsAnchor (anchor.Side j t) word → anchor.Side i s ≡ anchor.Side j t
one_side i j s t word (a, p, inl (one, is)) (b, q, inl (other, also)) =
    let texts : a ≡ b = append_cancel_left (codes "s:") a b (append_cancel_right (codes "s:" ++ a) (codes "s:" ++ b) (codes ":1") (sym is ∙ also)) in
    ap₂ anchor.Side (one_id i j b (subst (SpellsId i) texts p) q) (one ∙ sym other)
one_side i j s t word (a, p, inr (two, is)) (b, q, inr (other, also)) =
    let texts : a ≡ b = append_cancel_left (codes "s:") a b (append_cancel_right (codes "s:" ++ a) (codes "s:" ++ b) (codes ":2") (sym is ∙ also)) in
    ap₂ anchor.Side (one_id i j b (subst (SpellsId i) texts p) q) (two ∙ sym other)
one_side i j s t word (a, p, inl (one, is)) (b, q, inr (other, also)) = absurd (other_end (codes "s:" ++ a) (codes "s:" ++ b) (sym is ∙ also))
one_side i j s t word (a, p, inr (two, is)) (b, q, inl (other, also)) = absurd (other_end (codes "s:" ++ b) (codes "s:" ++ a) (sym also ∙ is))

node_or_side : (a b c : List ℕ) → codes "n:" ++ a ≡ codes "s:" ++ b ++ c → ⊥
node_or_side a b c same = let first : true ≡ false = ap (λ (l : List ℕ). get_or l 0 0 == 110) same in absurd cc

one_anchor : (x y : Anchor) (word : List ℕ) → SpellsAnchor x word → SpellsAnchor y word → x ≡ y
one_anchor (anchor.Node i) (anchor.Node j) word (a, is, p) (b, also, q) =
    let texts : a ≡ b = append_cancel_left (codes "n:") a b (sym is ∙ also) in
    ap anchor.Node (one_id i j b (subst (SpellsId i) texts p) q)
one_anchor (anchor.Node i) (anchor.Side j t) word (a, is, p) (b, q, inl (one, also)) = absurd (node_or_side a b (codes ":1") (sym is ∙ also))
one_anchor (anchor.Node i) (anchor.Side j t) word (a, is, p) (b, q, inr (two, also)) = absurd (node_or_side a b (codes ":2") (sym is ∙ also))
one_anchor (anchor.Side i s) (anchor.Node j) word (a, p, inl (one, is)) (b, also, q) = absurd (node_or_side b a (codes ":1") (sym also ∙ is))
one_anchor (anchor.Side i s) (anchor.Node j) word (a, p, inr (two, is)) (b, also, q) = absurd (node_or_side b a (codes ":2") (sym also ∙ is))
one_anchor (anchor.Side i s) (anchor.Side j t) word p q = one_side i j s t word p q

anchored_one : (x y : Anchor) (word : List ℕ) → Spells (anchored x) word → Spells (anchored y) word → anchored x ≡ anchored y
anchored_one x y word p q = ap anchored (one_anchor x y word p q)

spelled_one : (v u : Value) (word : List ℕ) → form_of v ≡ form_of u → Spells v word → Spells u word → v ≡ u
spelled_one (named x) (named y) word same p q = named_one x y word p q
spelled_one (named x) (long y) word same p q = absurd cc
spelled_one (named x) (anchored y) word same p q = absurd cc
spelled_one (named x) (phased y) word same p q = absurd cc
spelled_one (named x) (seen y) word same p q = absurd cc
spelled_one (long x) (named y) word same p q = absurd cc
spelled_one (long x) (long y) word same p q = long_one x y word p q
spelled_one (long x) (anchored y) word same p q = absurd cc
spelled_one (long x) (phased y) word same p q = absurd cc
spelled_one (long x) (seen y) word same p q = absurd cc
spelled_one (anchored x) (named y) word same p q = absurd cc
spelled_one (anchored x) (long y) word same p q = absurd cc
spelled_one (anchored x) (anchored y) word same p q = anchored_one x y word p q
spelled_one (anchored x) (phased y) word same p q = absurd cc
spelled_one (anchored x) (seen y) word same p q = absurd cc
spelled_one (phased x) (named y) word same p q = absurd cc
spelled_one (phased x) (long y) word same p q = absurd cc
spelled_one (phased x) (anchored y) word same p q = absurd cc
spelled_one (phased x) (phased y) word same p q = phased_one x y word p q
spelled_one (phased x) (seen y) word same p q = absurd cc
spelled_one (seen x) (named y) word same p q = absurd cc
spelled_one (seen x) (long y) word same p q = absurd cc
spelled_one (seen x) (anchored y) word same p q = absurd cc
spelled_one (seen x) (phased y) word same p q = absurd cc
spelled_one (seen x) (seen y) word same p q = seen_one x y word p q

-- ---- words

-- words spell one list of values of these forms
pub spelled_all : (vs us : List Value) (words : List (List ℕ)) → map form_of vs ≡ map form_of us → AreSpelled vs words → AreSpelled us words → vs ≡ us
spelled_all [] [] words same p q = refl
spelled_all [] (u ∷ us) words same p q = absurd cc
spelled_all (v ∷ vs) [] words same p q = absurd cc
spelled_all (v ∷ vs) (u ∷ us) [] same p q = absurd p
spelled_all (v ∷ vs) (u ∷ us) (word ∷ words) same p q =
    let first : form_of v ≡ form_of u = cc in
    let rest : map form_of vs ≡ map form_of us = cc in
    ap₂ ◌∷◌ (spelled_one v u word first p.0 q.0) (spelled_all vs us words rest p.1 q.1)

-- there are as many words as values
pub spelled_length : (vs : List Value) (words : List (List ℕ)) → AreSpelled vs words → length (map form_of vs) ≡ length words
spelled_length [] [] p = refl
spelled_length [] (word ∷ words) p = absurd p
spelled_length (v ∷ vs) [] p = absurd p
spelled_length (v ∷ vs) (word ∷ words) p = ap suc (spelled_length vs words p.1)

-- the first word that is not of its form is one
pub one_bad : (from : ℕ) (forms : List Form) (words : List (List ℕ)) (j k : ℕ) → FirstBad from forms words j → FirstBad from forms words k → j ≡ k
one_bad from [] words j k p q = absurd p
one_bad from (form ∷ forms) [] j k p q = absurd p
one_bad from (form ∷ forms) (word ∷ words) j k (inl (here, bad)) (inl (also, _)) = here ∙ sym also
one_bad from (form ∷ forms) (word ∷ words) j k (inl (here, bad)) (inr (good, _)) = absurd (bad good)
one_bad from (form ∷ forms) (word ∷ words) j k (inr (good, _)) (inl (also, bad)) = absurd (bad good)
one_bad from (form ∷ forms) (word ∷ words) j k (inr (good, p)) (inr (_, q)) = one_bad (from + 1) forms words j k p q

-- words that spell values are all of their forms
pub none_bad : (from : ℕ) (vs : List Value) (words : List (List ℕ)) (k : ℕ) → AreSpelled vs words → FirstBad from (map form_of vs) words k → ⊥
none_bad from [] words k spelled p = p
none_bad from (v ∷ vs) [] k spelled p = p
none_bad from (v ∷ vs) (word ∷ words) k spelled (inl (here, bad)) = bad (v, refl, spelled.0)
none_bad from (v ∷ vs) (word ∷ words) k spelled (inr (good, p)) = none_bad (from + 1) vs words k spelled.1 p
