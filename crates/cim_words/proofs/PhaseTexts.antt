-- Each set of phases has one text, and what is taken from a text part by part is that set.
use Rattle.std.proofs.Common.{◌≡◌, ℕ, List, [], ◌∷◌, ◌++◌, Bool, true, false, not, ◌||◌, ◌↔◌, IsTrue, true≢false, arith, refl, sym, ap, ◌∙◌, append_assoc}
use Rattle.std.proofs.lemmas.List.{append-nil}
use Rattle.std.proofs.lemmas.Bool.Decides.{nat_tests}
use Rattle.std.specs.Prelude.{codes}
use Rattle.cim_words.specs.declared.phases.Phase.{Phase}
use Rattle.cim_words.specs.declared.phases.Phase.TheVariants.{A, B, C, N, S1, S2}
use Rattle.cim_words.specs.declared.phases.PhaseSet.{PhaseSet}
use Rattle.cim_words.specs.Phases.{has_phase, has_no_phase, phase_text, text_if, secondary_text}
use Rattle.cim_words.specs.PhaseParts.{small_s, digit_two, begins_with, StripsLetter, StripsSecondaries, IsWhole}

none_held : (a b c n s1 s2 : Bool) → not (a || b || c || n || s1 || s2) ≡ true
    → (a ≡ false) × (b ≡ false) × (c ≡ false) × (n ≡ false) × (s1 ≡ false) × (s2 ≡ false)
none_held a b c n s1 s2 none = grind arith

pub has_no_phase-means : (set : PhaseSet) → IsTrue (has_no_phase set) ↔ ((p : Phase) → has_phase set p ≡ false)
has_no_phase-means set = (λ none p. each none p, λ all. rw (all A, all B, all C, all N, all S1, all S2) refl)
  where
    each : IsTrue (has_no_phase set) → (p : Phase) → has_phase set p ≡ false
    each none A = (none_held set.a set.b set.c set.n set.s1 set.s2 none).0
    each none B = (none_held set.a set.b set.c set.n set.s1 set.s2 none).1
    each none C = (none_held set.a set.b set.c set.n set.s1 set.s2 none).2
    each none N = (none_held set.a set.b set.c set.n set.s1 set.s2 none).3
    each none S1 = (none_held set.a set.b set.c set.n set.s1 set.s2 none).4
    each none S2 = (none_held set.a set.b set.c set.n set.s1 set.s2 none).5

-- what follows each part of a text
abbrev after_n : PhaseSet → List ℕ
after_n set = text_if (has_no_phase set) (codes "-") ++ []

abbrev after_s : PhaseSet → List ℕ
after_s set = text_if set.n (codes "N") ++ after_n set

abbrev after_c : PhaseSet → List ℕ
after_c set = secondary_text set.s1 set.s2 ++ after_s set

abbrev after_b : PhaseSet → List ℕ
after_b set = text_if set.c (codes "C") ++ after_c set

abbrev after_a : PhaseSet → List ℕ
after_a set = text_if set.b (codes "B") ++ after_b set

phase_text-parts : (set : PhaseSet) → phase_text set ≡ text_if set.a (codes "A") ++ after_a set
unfolding phase_text
phase_text-parts set = refl

-- no part goes on as the parts before it do
a_stops : (set : PhaseSet) → begins_with 65 (after_a set) ≡ false
a_stops set = grind arith

b_stops : (set : PhaseSet) → begins_with 66 (after_b set) ≡ false
b_stops set = grind arith

c_stops : (set : PhaseSet) → begins_with 67 (after_c set) ≡ false
c_stops set = grind arith

s_stops : (set : PhaseSet) → begins_with small_s (after_s set) ≡ false
s_stops set = grind arith

two_stops : (set : PhaseSet) → begins_with digit_two (after_s set) ≡ false
two_stops set = grind arith

n_stops : (set : PhaseSet) → begins_with 78 (after_n set) ≡ false
n_stops set = grind arith

begins_here : (letter : ℕ) (text rest : List ℕ) → text ≡ letter ∷ rest → begins_with letter text ≡ true
begins_here letter text rest spelled = rw spelled (grind (arith, nat_tests))

-- the letter that is taken is the one that is there
strips_only : (letter : ℕ) (text : List ℕ) (held : Bool) (rest : List ℕ) → StripsLetter letter text held rest
    → (other_held : Bool) (other : List ℕ) → begins_with letter other ≡ false
    → text ≡ text_if other_held (letter ∷ []) ++ other → (held ≡ other_held) × (rest ≡ other)
strips_only letter text true rest strips true other stops spelled =
    let same : letter ∷ rest ≡ letter ∷ other = sym strips.spelled ∙ spelled in
    (refl, cc)
strips_only letter text true rest strips false other stops spelled =
    absurd (true≢false (sym (begins_here letter other rest (sym spelled ∙ strips.spelled)) ∙ stops))
strips_only letter text false rest strips true other stops spelled =
    absurd (true≢false (sym (begins_here letter text other spelled) ∙ sym strips.greedy))
strips_only letter text false rest strips false other stops spelled = (refl, sym strips.spelled ∙ spelled)

same_set : (set : PhaseSet) (a b c s1 s2 n : Bool) → a ≡ set.a → b ≡ set.b → c ≡ set.c → s1 ≡ set.s1 → s2 ≡ set.s2 → n ≡ set.n
    → record { a = a; b = b; c = c; n = n; s1 = s1; s2 = s2 } ≡ set
same_set set a b c s1 s2 n a_same b_same c_same s1_same s2_same n_same =
    rw (a_same, b_same, c_same, s1_same, s2_same, n_same) refl

-- the parts that are taken from the text of a set are those of the set
pub parts_only : (text after_1 after_2 after_3 after_4 after_5 after_6 : List ℕ) (a b c s1 s2 n dash : Bool)
    → StripsLetter 65 text a after_1 → StripsLetter 66 after_1 b after_2 → StripsLetter 67 after_2 c after_3
    → StripsSecondaries after_3 s1 s2 after_4 → StripsLetter 78 after_4 n after_5 → StripsLetter 45 after_5 dash after_6
    → (set : PhaseSet) → text ≡ phase_text set
    → (record { a = a; b = b; c = c; n = n; s1 = s1; s2 = s2 } ≡ set) × IsWhole (record { a = a; b = b; c = c; n = n; s1 = s1; s2 = s2 }) dash after_6
parts_only text after_1 after_2 after_3 after_4 after_5 after_6 a b c s1 s2 n dash for_a for_b for_c for_s for_n for_dash set spelled =
    let at_a = strips_only 65 text a after_1 for_a set.a (after_a set) (a_stops set) (spelled ∙ phase_text-parts set) in
    let at_b = strips_only 66 after_1 b after_2 for_b set.b (after_b set) (b_stops set) at_a.1 in
    let at_c = strips_only 67 after_2 c after_3 for_c set.c (after_c set) (c_stops set) at_b.1 in
    let at_s = for_s.only set.s1 set.s2 (after_s set) (s_stops set) (two_stops set) at_c.1 in
    let at_n = strips_only 78 after_4 n after_5 for_n set.n (after_n set) (n_stops set) at_s.2 in
    let at_end = strips_only 45 after_5 dash after_6 for_dash (has_no_phase set) [] refl at_n.1 in
    let same = same_set set a b c s1 s2 n at_a.0 at_b.0 at_c.0 at_s.0 at_s.1 at_n.0 in
    (same, record { dashed = at_end.0 ∙ ap has_no_phase (sym same); ended = at_end.1 })

-- the parts that are taken from a text are its spelling where nothing is left
pub parts_spell : (text after_1 after_2 after_3 after_4 after_5 after_6 : List ℕ) (a b c s1 s2 n dash : Bool)
    → StripsLetter 65 text a after_1 → StripsLetter 66 after_1 b after_2 → StripsLetter 67 after_2 c after_3
    → StripsSecondaries after_3 s1 s2 after_4 → StripsLetter 78 after_4 n after_5 → StripsLetter 45 after_5 dash after_6
    → IsWhole (record { a = a; b = b; c = c; n = n; s1 = s1; s2 = s2 }) dash after_6
    → text ≡ phase_text (record { a = a; b = b; c = c; n = n; s1 = s1; s2 = s2 })
unfolding phase_text
parts_spell text after_1 after_2 after_3 after_4 after_5 after_6 a b c s1 s2 n dash for_a for_b for_c for_s for_n for_dash whole =
    rw (for_a.spelled, for_b.spelled, for_c.spelled, for_s.spelled, for_n.spelled, for_dash.spelled, whole.dashed, whole.ended) refl

strips_own : (letter : ℕ) (held : Bool) (rest : List ℕ) → begins_with letter rest ≡ false → StripsLetter letter (text_if held (letter ∷ []) ++ rest) held rest
strips_own letter true rest stops = record { spelled = refl; greedy = sym (begins_here letter (letter ∷ rest) rest refl) }
strips_own letter false rest stops = record { spelled = refl; greedy = sym stops }

secondaries_own : (s1 s2 : Bool) (rest : List ℕ) → begins_with small_s rest ≡ false → begins_with digit_two rest ≡ false
    → StripsSecondaries (secondary_text s1 s2 ++ rest) s1 s2 rest
secondaries_own s1 s2 rest s_ends two_ends = record {
  spelled = refl;
  only = λ one two other other_s_ends other_two_ends same. same_secondaries s1 s2 rest one two other s_ends two_ends other_s_ends other_two_ends same;
}
  where
    same_secondaries : (s1 s2 : Bool) (rest : List ℕ) (one two : Bool) (other : List ℕ)
        → begins_with small_s rest ≡ false → begins_with digit_two rest ≡ false → begins_with small_s other ≡ false → begins_with digit_two other ≡ false
        → secondary_text s1 s2 ++ rest ≡ secondary_text one two ++ other → (s1 ≡ one) × (s2 ≡ two) × (rest ≡ other)
    same_secondaries s1 s2 rest one two other s_ends two_ends other_s_ends other_two_ends same = grind arith

-- each set has a text of its own
pub phase_text-injective : (x y : PhaseSet) → phase_text x ≡ phase_text y → x ≡ y
phase_text-injective x y same =
    (parts_only (phase_text x) (after_a x) (after_b x) (after_c x) (after_s x) (after_n x) [] x.a x.b x.c x.s1 x.s2 x.n (has_no_phase x)
    (rw (phase_text-parts x) (strips_own 65 x.a (after_a x) (a_stops x))) (strips_own 66 x.b (after_b x) (b_stops x))
    (strips_own 67 x.c (after_c x) (c_stops x)) (secondaries_own x.s1 x.s2 (after_s x) (s_stops x) (two_stops x))
    (strips_own 78 x.n (after_n x) (n_stops x)) (strips_own 45 (has_no_phase x) [] refl) y same).0

-- what has been appended part by part is the text
pub phase_text-appended : (into : List ℕ) (set : PhaseSet)
    → into ++ text_if set.a (codes "A") ++ text_if set.b (codes "B") ++ text_if set.c (codes "C") ++ secondary_text set.s1 set.s2
    ++ text_if set.n (codes "N") ++ text_if (has_no_phase set) (codes "-") ≡ into ++ phase_text set
unfolding phase_text
phase_text-appended into set = simp (append_assoc, append-nil)
