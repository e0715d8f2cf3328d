-- From the walks through the graph of a live network to its trace.
use Rattle.std.proofs.Common.{◌≡◌, ◌↔◌, ℕ, List, true, false, Option, Some, None, refl}
use Rattle.cim_model.specs.Live.{is_live}
use Rattle.cim_model.specs.Reach.{IsReached, Wiring}
use Rattle.cim_model.specs.Trace.{IsTrace, Row}
use Rattle.cim_words.specs.declared.phases.Phase.{Phase}
use Rattle.cim_words.specs.declared.phases.PhaseSet.{PhaseSet}
use Rattle.cim_words.specs.declared.statement.Statement.{Statement}
use Rattle.graph_pages.specs.Graph.{GraphView, star_of}
use Rattle.graph_pages.specs.declared.star.Star.{Star}
use Rattle.link_rules.specs.Map.{IsMap, IsStarAt}
use Rattle.room_words.specs.declared.overlay.Overlay.{Overlay}

-- a trace of one wiring is one of another, where both reach the same
pub other_trace : (v w : Wiring) (x : ℕ) (asked : PhaseSet) (rows : List Row) → ((y : ℕ) (p : Phase) → IsReached v x asked y p ↔ IsReached w x asked y p)
    → IsTrace (IsReached v x asked) rows → IsTrace (IsReached w x asked) rows
other_trace v w x asked rows same trace = record {
  ascending = trace.ascending;
  in_some_phase = trace.in_some_phase;
  complete = λ y p reached. trace.complete y p ((same y p).1 reached);
  sound = λ y p listed. (same y p).0 (trace.sound y p listed);
}

-- the graph has a star of just the equipment and the items
starless : (m : List Statement) (o : Overlay) (x : ℕ) (star : Option Star) → IsStarAt m o x star → star ≡ None → is_live m o x ≡ false
starless m o x None none is = none
starless m o x (Some found) some is = absurd cc

pub no_star : (m : List Statement) (o : Overlay) (g : GraphView) (x : ℕ) → IsMap m o g → star_of g x ≡ None → is_live m o x ≡ false
no_star m o g x entries none = starless m o x (star_of g x) (entries.stars x) none

starred : (m : List Statement) (o : Overlay) (x : ℕ) (star : Option Star) → IsStarAt m o x star → (star ≡ None → ⊥) → is_live m o x ≡ true
starred m o x None none some = absurd (some refl)
starred m o x (Some found) here some = here.0

pub a_star : (m : List Statement) (o : Overlay) (g : GraphView) (x : ℕ) → IsMap m o g → (star_of g x ≡ None → ⊥) → is_live m o x ≡ true
a_star m o g x entries some = starred m o x (star_of g x) (entries.stars x) some
