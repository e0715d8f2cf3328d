-- From the walks through the graph of a base to its trace.
use Rattle.std.proofs.Common.{◌≡◌, ◌↔◌, ℕ, List, true, false, Option, Some, None, Result, Ok, Err, IfErr, IsErrAnd, refl, sym, subst}
use Rattle.cim_words.specs.declared.phases.Phase.{Phase}
use Rattle.cim_words.specs.declared.phases.PhaseSet.{PhaseSet}
use Rattle.cim_words.specs.declared.statement.Statement.{Statement}
use Rattle.cim_model.specs.Network.{is_equipment}
use Rattle.cim_model.specs.Reach.{IsReached, Wiring}
use Rattle.cim_model.specs.Trace.{IsTrace, Row}
use Rattle.graph_pages.specs.Graph.{GraphView, star_of}
use Rattle.graph_pages.specs.declared.star.Star.{Star}
use Rattle.link_rules.specs.Map.{IsMap, IsStarAt}
use Rattle.room_base.specs.Refusal.{IfRefusal}
use Rattle.room_base.specs.declared.refusal.Failure.{Failure}
use Rattle.room_base.specs.declared.refusal.Failure.TheVariants as failure
use Rattle.room_base.specs.declared.refusal.TaskRefusal.{TaskRefusal}
use Rattle.room_words.specs.Overlay.{no_overlay}

-- a trace of one wiring is one of another, where both reach the same
pub other_trace : (v w : Wiring) (x : ℕ) (asked : PhaseSet) (rows : List Row) → ((y : ℕ) (p : Phase) → IsReached v x asked y p ↔ IsReached w x asked y p)
    → IsTrace (IsReached v x asked) rows → IsTrace (IsReached w x asked) rows
other_trace v w x asked rows same trace = record {
  ascending = trace.ascending;
  in_some_phase = trace.in_some_phase;
  complete = λ y p reached. trace.complete y p ((same y p).1 reached);
  sound = λ y p listed. (same y p).0 (trace.sound y p listed);
}

-- the graph has a star of just the equipment
starless : (m : List Statement) (x : ℕ) (o : Option Star) → IsStarAt m no_overlay x o → o ≡ None → is_equipment m x ≡ false
starless m x None none is = none
starless m x (Some found) some is = absurd cc

pub no_star : (m : List Statement) (g : GraphView) (x : ℕ) → IsMap m no_overlay g → star_of g x ≡ None → is_equipment m x ≡ false
no_star m g x entries none = starless m x (star_of g x) (entries.stars x) none

starred : (m : List Statement) (x : ℕ) (o : Option Star) → IsStarAt m no_overlay x o → (o ≡ None → ⊥) → is_equipment m x ≡ true
starred m x None none some = absurd (some refl)
starred m x (Some found) here some = here.0

pub a_star : (m : List Statement) (g : GraphView) (x : ℕ) → IsMap m no_overlay g → (star_of g x ≡ None → ⊥) → is_equipment m x ≡ true
a_star m g x entries some = starred m x (star_of g x) (entries.stars x) some

-- want of memory is no refusal
pub without_memory : {A : Type 0} (r : Result A (Failure TaskRefusal)) (P : TaskRefusal → Type 0) → IsErrAnd r (λ e. e ≡ failure.NoMemory) → IfErr r (λ e. IfRefusal e P)
without_memory (Ok a) P is = absurd is
without_memory (Err e) P is = subst (λ (f : Failure TaskRefusal). IfRefusal f P) (sym is) tt
