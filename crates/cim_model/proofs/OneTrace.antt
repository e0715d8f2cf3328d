-- A trace has one list of rows.
use Rattle.std.proofs.Common.{ℕ, ◌≡◌, ◌<◌, List, IsTrue, map, refl, sym, ◌∙◌, subst, arith, inl, inr}
use Rattle.std.proofs.lemmas.List.Kept.{AllPairs-from_increasing}
use Rattle.std.specs.Prelude.{Contains}
use Rattle.std.specs.List.Sorted.{IsStrictlyIncreasing}
use Rattle.std.specs.Cmp.{both_ways}
use Rattle.std.specs.List.{AllPairs}
use Rattle.plain_laws.proofs.Pairs.{pairs_any, pairs_read}
use Rattle.plain_laws.proofs.Sorted.{one_in_order}
use Rattle.cim_words.specs.Phases.{has_phase}
use Rattle.cim_words.specs.declared.phases.Phase.{Phase}
use Rattle.cim_words.specs.declared.phases.Phase.TheVariants as phase
use Rattle.cim_words.specs.declared.phases.PhaseSet.{PhaseSet}
use Rattle.cim_model.specs.Trace.{IsTrace, Lists, Row}

-- rows of an ascending list stand in the order of their numbers
abbrev number_of_row : Row → ℕ
number_of_row row = row.0.number

abbrev Lower : Row → Row → Type 0
Lower r s = number_of_row r < number_of_row s

ascending_rows : (rows : List Row) → IsStrictlyIncreasing (map number_of_row rows) → AllPairs Lower rows
ascending_rows rows up = pairs_read (λ m n. m < n) number_of_row rows (AllPairs-from_increasing (map number_of_row rows) up)

-- so those with one number are one row
one_row : (rows : List Row) → IsStrictlyIncreasing (map number_of_row rows) → (r s : Row) → Contains rows r → Contains rows s → number_of_row r ≡ number_of_row s → r ≡ s
one_row rows up r s has_r has_s same = elim (pairs_any Lower rows (ascending_rows rows up) r s has_r has_s) [
  | inl lower ↦ absurd (omega arith)
  | inr others ↦ elim others [ inl is ↦ is | inr higher ↦ absurd (omega arith) ]
]

same_phases : (a b : PhaseSet) → ((p : Phase) → IsTrue (has_phase a p) → IsTrue (has_phase b p)) → ((p : Phase) → IsTrue (has_phase b p) → IsTrue (has_phase a p)) → a ≡ b
same_phases a b there back i = record {
  a = both_ways a.a b.a (there phase.A) (back phase.A) i;
  b = both_ways a.b b.b (there phase.B) (back phase.B) i;
  c = both_ways a.c b.c (there phase.C) (back phase.C) i;
  n = both_ways a.n b.n (there phase.N) (back phase.N) i;
  s1 = both_ways a.s1 b.s1 (there phase.S1) (back phase.S1) i;
  s2 = both_ways a.s2 b.s2 (there phase.S2) (back phase.S2) i;
}

same_row : (r s : Row) → r.0.number ≡ s.0.number → r.1 ≡ s.1 → r ≡ s
same_row r s numbers phases i = (record { number = numbers i }, phases i)

-- what one trace lists, another lists
listed_too : (reached : ℕ → Phase → Type 0) (a b : List Row) → IsTrace reached a → IsTrace reached b
    → (row : Row) (p : Phase) → Contains a row → IsTrue (has_phase row.1 p) → Lists b row.0.number p
listed_too reached a b of_a of_b row p h shows =
    of_b.complete row.0.number p (of_a.sound row.0.number p (record { row = row; stands = h; of_equipment = refl; in_phase = shows }))

-- two rows of one piece of equipment, each in its trace, have the same phases
phases_too : (reached : ℕ → Phase → Type 0) (a b : List Row) → IsTrace reached a → IsTrace reached b
    → (r s : Row) → Contains a r → Contains b s → r.0.number ≡ s.0.number
    → (p : Phase) → IsTrue (has_phase r.1 p) → IsTrue (has_phase s.1 p)
phases_too reached a b of_a of_b r s has_r has_s numbers p shows =
    let l = listed_too reached a b of_a of_b r p has_r shows in
    let same : l.row ≡ s = one_row b of_b.ascending l.row s l.stands has_s (l.of_equipment ∙ numbers) in
    subst (λ (row : Row). IsTrue (has_phase row.1 p)) same l.in_phase

row_too : (reached : ℕ → Phase → Type 0) (a b : List Row) → IsTrace reached a → IsTrace reached b
    → (r : Row) → Contains a r → Contains b r
row_too reached a b of_a of_b r h =
    let some = of_a.in_some_phase r h in
    let l = listed_too reached a b of_a of_b r some.0 h some.1 in
    let same : l.row ≡ r = same_row l.row r l.of_equipment (same_phases l.row.1 r.1
    (phases_too reached b a of_b of_a l.row r l.stands h l.of_equipment)
    (phases_too reached a b of_a of_b r l.row h l.stands (sym l.of_equipment))) in
    subst (Contains b) same l.stands

-- a trace has one list of rows
pub one_trace : (reached : ℕ → Phase → Type 0) (a b : List Row) → IsTrace reached a → IsTrace reached b → a ≡ b
one_trace reached a b of_a of_b =
    one_in_order Lower a b (λ r s lower higher. omega arith) (ascending_rows a of_a.ascending) (ascending_rows b of_b.ascending)
    (row_too reached a b of_a of_b) (row_too reached b a of_b of_a)
