-- Sets of phases, phase by phase.
use Rattle.std.proofs.Common.{◌≡◌, ◌≤◌, ◌+◌, ℕ, Bool, true, false, cond, not, ◌&&◌, ◌||◌, IsTrue, refl, arith}
use Rattle.cim_model.specs.Phases.{no_phases}
use Rattle.cim_words.specs.Phases.{has_phase, has_no_phase}
use Rattle.cim_words.specs.declared.phases.Phase.{Phase}
use Rattle.cim_words.specs.declared.phases.Phase.TheVariants.{A, B, C, N, S1, S2}
use Rattle.cim_words.specs.declared.phases.PhaseSet.{PhaseSet}
use Rattle.feeder_trace.specs.Search.{lacking}

-- a set that is not empty has a phase, and an empty one has none
some_at : (a b c n s t : Bool) → not (a || b || c || n || s || t) ≡ false → let set : PhaseSet = record { a = a; b = b; c = c; n = n; s1 = s; s2 = t } in (p : Phase) × IsTrue (has_phase set p)
some_at true b c n s t h = (A, refl)
some_at false true c n s t h = (B, refl)
some_at false false true n s t h = (C, refl)
some_at false false false true s t h = (N, refl)
some_at false false false false true t h = (S1, refl)
some_at false false false false false true h = (S2, refl)
some_at false false false false false false h = cc

pub some_phase : (set : PhaseSet) → has_no_phase set ≡ false → (p : Phase) × IsTrue (has_phase set p)
some_phase set h = some_at set.a set.b set.c set.n set.s1 set.s2 h

-- how many phases one place adds
adds : (before new joined : Bool) → joined ≡ (before || new) → (before && new) ≡ false → cond joined 0 1 + cond new 1 0 ≡ cond before 0 1
adds true true joined e apart = cc
adds true false true e apart = refl
adds true false false e apart = cc
adds false true true e apart = refl
adds false true false e apart = cc
adds false false true e apart = cc
adds false false false e apart = refl

counted : PhaseSet → ℕ
counted set = cond set.a 1 0 + cond set.b 1 0 + cond set.c 1 0 + cond set.n 1 0 + cond set.s1 1 0 + cond set.s2 1 0

counted_at : (a b c n s t : Bool) → not (a || b || c || n || s || t) ≡ false → 1 ≤ cond a 1 0 + cond b 1 0 + cond c 1 0 + cond n 1 0 + cond s 1 0 + cond t 1 0
counted_at true b c n s t h = omega arith
counted_at false true c n s t h = omega arith
counted_at false false true n s t h = omega arith
counted_at false false false true s t h = omega arith
counted_at false false false false true t h = omega arith
counted_at false false false false false true h = omega arith
counted_at false false false false false false h = cc

-- where new phases join others, fewer are lacking
pub fewer_lack : (before new joined : PhaseSet) → ((p : Phase) → has_phase joined p ≡ (has_phase before p || has_phase new p)) → ((p : Phase) → (has_phase before p && has_phase new p) ≡ false) → has_no_phase new ≡ false → lacking joined + 1 ≤ lacking before
fewer_lack before new joined e apart some =
    omega (
      arith,
      adds before.a new.a joined.a (e A) (apart A),
      adds before.b new.b joined.b (e B) (apart B),
      adds before.c new.c joined.c (e C) (apart C),
      adds before.n new.n joined.n (e N) (apart N),
      adds before.s1 new.s1 joined.s1 (e S1) (apart S1),
      adds before.s2 new.s2 joined.s2 (e S2) (apart S2),
      counted_at new.a new.b new.c new.n new.s1 new.s2 some,
    )

-- what is new is of the terminal and was not there before
pub new_phase : (wanted own before new : Bool) → new ≡ ((wanted && own) && not before) → wanted ≡ true → own ≡ true → (before || new) ≡ true
new_phase true true true new e w o = refl
new_phase true true false new e w o = e
new_phase true false before new e w o = cc
new_phase false own before new e w o = cc

pub new_apart : (wanted own before new : Bool) → new ≡ ((wanted && own) && not before) → (before && new) ≡ false
new_apart true true true new e = e
new_apart true false true new e = e
new_apart false own true new e = e
new_apart wanted own false new e = refl

pub new_is : (wanted own before new : Bool) → new ≡ ((wanted && own) && not before) → new ≡ true → (wanted ≡ true) × (own ≡ true)
new_is true true before new e h = (refl, refl)
new_is true false before new e h = cc
new_is false own before new e h = cc

filled_at : (a b c n s t : Bool) (p : Phase) → let set : PhaseSet = record { a = a; b = b; c = c; n = n; s1 = s; s2 = t } in has_phase set p ≡ true → not (a || b || c || n || s || t) ≡ false
filled_at true b c n s t p h = refl
filled_at false true c n s t p h = refl
filled_at false false true n s t p h = refl
filled_at false false false true s t p h = refl
filled_at false false false false true t p h = refl
filled_at false false false false false true p h = refl
filled_at false false false false false false A h = cc
filled_at false false false false false false B h = cc
filled_at false false false false false false C h = cc
filled_at false false false false false false N h = cc
filled_at false false false false false false S1 h = cc
filled_at false false false false false false S2 h = cc

-- a set with a phase is not empty
pub filled : (set : PhaseSet) (p : Phase) → IsTrue (has_phase set p) → has_no_phase set ≡ false
filled set p h = filled_at set.a set.b set.c set.n set.s1 set.s2 p h

pub lacking_most : (set : PhaseSet) → lacking set ≤ 6
lacking_most set = omega (arith, at_most set.a, at_most set.b, at_most set.c, at_most set.n, at_most set.s1, at_most set.s2)
  where
    at_most : (b : Bool) → cond b 0 1 ≤ 1
    at_most true = omega arith
    at_most false = omega arith

pub no_phase : (p : Phase) → IsTrue (has_phase no_phases p) → ⊥
no_phase A h = cc
no_phase B h = cc
no_phase C h = cc
no_phase N h = cc
no_phase S1 h = cc
no_phase S2 h = cc
