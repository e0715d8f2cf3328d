-- What a search over the points of a graph keeps, and what it has marked when nothing waits.
use Rattle.std.proofs.Common.{slice_get, ◌≡◌, ◌⊎◌, ◌+◌, ◌<◌, ℕ, List, [], ◌∷◌, ◌++◌, length, Some, None, IsTrue, Contains, sum_by, sym, ap, ◌∙◌, subst, inl, inr, ⊎_elim, arith, length-append}
use Rattle.std.proofs.lemmas.List.Elements.{Contains-append_left, Contains-push, Contains-push_cases}
use Rattle.std.proofs.lemmas.Option.{same_Some}
use Rattle.cim_model.proofs.WalkInduction.{reached_is_point, reaches_induction, reaches_start, reaches_step}
use Rattle.plain_laws.proofs.Members.{contains_nothing}
use Rattle.plain_laws.proofs.Options.{some_none}
use Rattle.cim_model.specs.Reach.{IsPointReached, IsStart, Linked}
use Rattle.cim_words.specs.Phases.{has_phase}
use Rattle.cim_words.specs.declared.phases.Phase.{Phase}
use Rattle.cim_words.specs.declared.phases.PhaseSet.{PhaseSet}
use Rattle.graph_pages.specs.Graph.{GraphView, star_of}
use Rattle.graph_pages.specs.Walks.{HasSpoke, Joined, wiring}
use Rattle.room_words.specs.declared.term.Point.{Point}
use Rattle.graph_pages.specs.declared.star.Star.{Star}
use Rattle.room_words.specs.declared.term.Term.{Term}
use Rattle.feeder_trace.specs.Numbering.{IsOwn}
use Rattle.feeder_trace.specs.Search.{SearchView, IsSet, IsMarked, IsPopped, MarksAll, Waits, lacking, unmarked}
use Rattle.feeder_trace.specs.Spread.{AmongSpokes, JoinedFrom}

-- Where a search stands: what is marked is walked, each start is marked, and so is each point linked from a marked one that does not wait.
pub record IsWalk (g : GraphView) (x : ℕ) (asked : PhaseSet) (v : SearchView) : Type 0 where
  pub sound : (a : Point) → IsMarked v a → IsPointReached (wiring g) x asked a
  pub begun : (a : Point) → IsStart (wiring g) x asked a → IsMarked v a
  pub waiting : (a : Point) → Waits v a → IsMarked v a
  pub closed : (a b : Point) → IsMarked v a → Linked (wiring g) a b → Waits v a ⊎ IsMarked v b

-- when the star's terminals are marked, and nothing else
pub walk_begins : (g : GraphView) (x : ℕ) (star : Star) (asked : PhaseSet) (a b : SearchView) → a.graph ≡ g → star_of g x ≡ Some star → a.reached ≡ [] → a.pending ≡ [] → MarksAll (AmongSpokes star.spokes None asked) a b → IsWalk g x asked b
walk_begins g x star asked a b same_graph at unmarked_all none m =
    let nothing_marked : (c : Point) → IsMarked a c → ⊥ = λ c h. let (held, read, holds) = h.2 in let empty : slice_get {X = PhaseSet} [] h.0 ≡ Some held = subst (λ (rs : List PhaseSet). slice_get rs h.0 ≡ Some held) unmarked_all read in cc in
    let nothing_waits : (c : Point) → Waits a c → ⊥ = λ c h. contains_nothing (c.term, h.0) (subst (λ (ws : List (Term × PhaseSet)). Contains ws (c.term, h.0)) none h.1) in
    record {
      sound = λ c h. ⊎_elim
          (λ old. absurd (nothing_marked c old))
          (λ new. reaches_start (Linked (wiring g)) (IsStart (wiring g) x asked) c (record { of_source = (star, at, new.0.0); point = subst (λ h. IsOwn h c) same_graph new.1; in_asked = new.0.2 }))
          (m.only c h);
      begun = λ c s.
          let (own, at', listed) = s.of_source in
          let same : own ≡ star = same_Some own star (sym at' ∙ at) in
          m.marked c (subst (λ (st : Star). HasSpoke st c.term) same listed, (λ e. some_none c.term e), s.in_asked) (subst (λ h. IsOwn h c) (sym same_graph) s.point);
      waiting = λ c w. ⊎_elim (λ old. absurd (nothing_waits c old)) (λ h. h) (m.waits_only c w);
      closed = λ c d h next. ⊎_elim (λ old. absurd (nothing_marked c old)) (λ new. inl new.2) (m.only c h);
    }

-- when all that is joined to what waited last is marked
pub walk_goes_on : (g : GraphView) (x : ℕ) (asked : PhaseSet) (next : Term × PhaseSet) (a b c : SearchView) → a.graph ≡ g → IsWalk g x asked a → IsPopped next a b → MarksAll (JoinedFrom g next.0 next.1) b c → IsWalk g x asked c
walk_goes_on g x asked next a b c same_graph walk popped m =
    let same_b : b.graph ≡ g = popped.same_graph ∙ same_graph in
    let back : (y : Point) → IsMarked b y → IsMarked a y = λ y h. subst (λ (ts : List (Term × PhaseSet)). (i : ℕ) × ((phases : PhaseSet) × (slice_get ts i ≡ Some (y.term, phases))) × IsSet a.reached i y.phase) popped.same_terminals (subst (λ (rs : List PhaseSet). (i : ℕ) × ((phases : PhaseSet) × (slice_get b.terminals i ≡ Some (y.term, phases))) × IsSet rs i y.phase) popped.same_reached h) in
    let forth : (y : Point) → IsMarked a y → IsMarked b y = λ y h. subst (λ (ts : List (Term × PhaseSet)). (i : ℕ) × ((phases : PhaseSet) × (slice_get ts i ≡ Some (y.term, phases))) × IsSet b.reached i y.phase) (sym popped.same_terminals) (subst (λ (rs : List PhaseSet). (i : ℕ) × ((phases : PhaseSet) × (slice_get a.terminals i ≡ Some (y.term, phases))) × IsSet rs i y.phase) (sym popped.same_reached) h) in
    let into : (w : Term × PhaseSet) → Contains (b.pending ++ next ∷ []) w → Contains a.pending w = λ w h. subst (λ (ws : List (Term × PhaseSet)). Contains ws w) (sym popped.pending) h in
    let out : (w : Term × PhaseSet) → Contains a.pending w → Contains (b.pending ++ next ∷ []) w = λ w h. subst (λ (ws : List (Term × PhaseSet)). Contains ws w) popped.pending h in
    let popped_marked : (p : Phase) → IsTrue (has_phase next.1 p) → IsMarked a (record { term = next.0; phase = p }) = λ p h. walk.waiting (record { term = next.0; phase = p }) (next.1, into next (Contains-push b.pending next), h) in
    record {
      sound = λ y h. ⊎_elim
          (λ old. walk.sound y (back y old))
          (λ (may, own, waits).
          let from : Point = record { term = next.0; phase = may.0 } in
          let walked = walk.sound from (popped_marked may.0 may.1) in
          reaches_step (Linked (wiring g)) (IsStart (wiring g) x asked) from y walked (record { from = reached_is_point (wiring g) x asked from walked; to = subst (λ h. IsOwn h y) same_b own; joined = may.2 }))
          (m.only y h);
      begun = λ y s. m.kept y (forth y (walk.begun y s));
      waiting = λ y w. ⊎_elim
          (λ old. m.kept y (forth y (walk.waiting y (old.0, into (y.term, old.0) (Contains-append_left b.pending (next ∷ []) (y.term, old.0) old.1), old.2))))
          (λ h. h)
          (m.waits_only y w);
      closed = λ y z h link. ⊎_elim
          (λ old. ⊎_elim
          (λ waited. ⊎_elim
          (λ l. inl (m.waits y (waited.0, l, waited.2)))
          (λ same.
          let at : next.0 ≡ y.term = ap (λ (w : Term × PhaseSet). w.0) same in
          let set : next.1 ≡ waited.0 = ap (λ (w : Term × PhaseSet). w.1) same in
          inr (m.marked z (y.phase, subst (λ (s : PhaseSet). IsTrue (has_phase s y.phase)) (sym set) waited.2, subst (λ (t : Term). Joined g (record { term = t; phase = y.phase }) z) (sym at) link.joined) (subst (λ h. IsOwn h z) (sym same_b) link.to)))
          (Contains-push_cases b.pending next (y.term, waited.0) (out (y.term, waited.0) waited.1)))
          (λ there. inr (m.kept z (forth z there)))
          (walk.closed y z (back y old) link))
          (λ new. inl new.2)
          (m.only y h);
    }

-- when nothing waits, what is walked is marked
pub walk_ends : (g : GraphView) (x : ℕ) (asked : PhaseSet) (v : SearchView) → IsWalk g x asked v → v.pending ≡ [] → (a : Point) → IsPointReached (wiring g) x asked a → IsMarked v a
walk_ends g x asked v walk none =
    reaches_induction (Linked (wiring g)) (IsStart (wiring g) x asked) (IsMarked v) walk.begun
    (λ b c h next. ⊎_elim
    (λ waits. contains_nothing (b.term, waits.0) (subst (λ (ws : List (Term × PhaseSet)). Contains ws (b.term, waits.0)) none waits.1))
    (λ there. there)
    (walk.closed b c h next))

-- each step leaves less to do
pub walk_falls : (next : Term × PhaseSet) (may : Point → Type 0) (a b c : SearchView) → IsPopped next a b → MarksAll may b c → unmarked c + length c.pending < unmarked a + length a.pending
walk_falls next may a b c popped m =
    omega (arith, m.work, popped.same_most, ap length popped.same_terminals, ap (sum_by lacking) popped.same_reached, ap length popped.pending, length-append b.pending (next ∷ []))
