-- Wirings that agree on points reach the same.
use Rattle.std.proofs.Common.{◌≡◌, ℕ, IsTrue, subst}
use Rattle.cim_model.proofs.WalkInduction.{reached_is_point, reaches_induction, reaches_start, reaches_step}
use Rattle.cim_model.specs.Reach.{IsPoint, IsPointReached, IsReached, IsStart, Linked, Wiring}
use Rattle.cim_words.specs.Phases.{has_phase}
use Rattle.cim_words.specs.declared.phases.Phase.{Phase}
use Rattle.cim_words.specs.declared.phases.PhaseSet.{PhaseSet}
use Rattle.room_words.specs.declared.term.Point.{Point}
use Rattle.room_words.specs.declared.term.Term.{Term}

-- what one wiring says of its points, another says too
pub record Follows (v w : Wiring) : Type 0 where
  pub phases : (t : Term) → v.phases t ≡ w.phases t
  pub starts : (x : ℕ) (a : Point) → IsPoint v a → v.starts x a.term → w.starts x a.term
  pub joined : (a b : Point) → IsPoint v a → IsPoint v b → v.joined a b → w.joined a b
  pub counts : (a : Point) (y : ℕ) → IsPoint v a → v.counts a.term y a.phase → w.counts a.term y a.phase

point_too : (v w : Wiring) (a : Point) → Follows v w → IsPoint v a → IsPoint w a
point_too v w a follows point = subst (λ (set : PhaseSet). IsTrue (has_phase set a.phase)) (follows.phases a.term) point

start_too : (v w : Wiring) (x : ℕ) (asked : PhaseSet) (a : Point) → Follows v w → IsStart v x asked a → IsStart w x asked a
start_too v w x asked a follows start = record { of_source = follows.starts x a start.point start.of_source; point = point_too v w a follows start.point; in_asked = start.in_asked }

link_too : (v w : Wiring) (a b : Point) → Follows v w → Linked v a b → Linked w a b
link_too v w a b follows link = record { from = point_too v w a follows link.from; to = point_too v w b follows link.to; joined = follows.joined a b link.from link.to link.joined }

pub point_reached_too : (v w : Wiring) (x : ℕ) (asked : PhaseSet) (b : Point) → Follows v w → IsPointReached v x asked b → IsPointReached w x asked b
point_reached_too v w x asked b follows =
    reaches_induction (Linked v) (IsStart v x asked) (IsPointReached w x asked) (λ a start. reaches_start (Linked w) (IsStart w x asked) a (start_too v w x asked a follows start))
    (λ a c reached link. reaches_step (Linked w) (IsStart w x asked) a c reached (link_too v w a c follows link)) b

pub reached_too : (v w : Wiring) (x : ℕ) (asked : PhaseSet) (y : ℕ) (p : Phase) → Follows v w → IsReached v x asked y p → IsReached w x asked y p
reached_too v w x asked y p follows reached =
    let at : Point = record { term = reached.term; phase = p } in
    let point = reached_is_point v x asked at reached.reached in
    record { term = reached.term; counts = follows.counts at y point reached.counts; reached = point_reached_too v w x asked at follows reached.reached }
