-- How marks grow, about views alone.
use Rattle.std.proofs.Common.{zero, suc, get_or-set_same, ◌≡◌, ◌≢◌, ◌<◌, ◌⊎◌, ℕ, true, false, not, ◌&&◌, ◌||◌, List, [], ◌∷◌, ◌++◌, length, Some, slice_get, get_or, set, IsTrue, Contains, refl, sym, ap, ◌∙◌, subst, inl, inr, ⊎_elim, arith, length-set, length-append, true≢false}
use Rattle.std.proofs.lemmas.Bool.{cases_eq, or_cases, or_left, or_right}
use Rattle.std.proofs.lemmas.List.Elements.{Contains-append_left, Contains-push, Contains-push_cases}
use Rattle.std.proofs.lemmas.List.{length_push}
use Rattle.std.proofs.lemmas.List.Sums.{sum_by-set, sum_by_push}
use Rattle.std.proofs.lemmas.Option.{slice_get-get_or, same_Some, slice_get_within, get_or_from_slice_get}
use Rattle.cim_model.specs.Phases.{no_phases}
use Rattle.cim_words.specs.Phases.{has_phase, has_no_phase}
use Rattle.cim_words.specs.declared.phases.Phase.{Phase}
use Rattle.cim_words.specs.declared.phases.PhaseSet.{PhaseSet}
use Rattle.room_words.specs.declared.term.Point.{Point}
use Rattle.room_words.specs.declared.term.Term.{Term}
use Rattle.feeder_trace.specs.Numbering.{IsOwn}
use Rattle.graph_pages.specs.Walks.{phases_at}
use Rattle.feeder_trace.specs.Search.{SearchView, IsMarked, MarksAll, AtTerm, Nowhere, lacking}
use Rattle.feeder_trace.proofs.PhaseLemmas.{fewer_lack, new_phase, new_apart, new_is, no_phase}
use Rattle.feeder_trace.proofs.PushLemmas.{get_cases, get_left}

pub slice_get-set_same : {X : Type 0} (xs : List X) (i : ℕ) (y : X) → i < length xs → slice_get (set xs i y) i ≡ Some y
slice_get-set_same xs i y within =
    let inside : i < length (set xs i y) = omega (arith, length-set xs i y) in
    slice_get-get_or (set xs i y) i y inside ∙ ap Some (get_or-set_same xs i y y within)

pub slice_get-set_other : {X : Type 0} (xs : List X) (i j : ℕ) (y : X) → j ≢ i → slice_get (set xs i y) j ≡ slice_get xs j
slice_get-set_other [] i j y apart = refl
slice_get-set_other (x ∷ xs) zero zero y apart = absurd (apart refl)
slice_get-set_other (x ∷ xs) zero (suc j) y apart = refl
slice_get-set_other (x ∷ xs) (suc i) zero y apart = refl
slice_get-set_other (x ∷ xs) (suc i) (suc j) y apart = slice_get-set_other xs i j y (λ e. apart (ap suc e))

-- nothing changes where all that may be marked is marked
pub marks_nothing : (may : Point → Type 0) (v : SearchView) → ((a : Point) → may a → IsOwn v.graph a → IsMarked v a) → MarksAll may v v
marks_nothing may v there = record {
  same_graph = refl;
  same_most = refl;
  marked = there;
  kept = λ a m. m;
  only = λ a m. inl m;
  waits = λ a w. w;
  waits_only = λ a w. inl w;
  work = omega arith;
}

-- some, and then some more
pub marks_more : (may more : Point → Type 0) (a b c : SearchView) → MarksAll may a b → MarksAll more b c → MarksAll (λ x. may x ⊎ more x) a c
marks_more may more a b c first then = record {
  same_graph = then.same_graph ∙ first.same_graph;
  same_most = then.same_most ∙ first.same_most;
  marked = λ x m own. ⊎_elim (λ l. then.kept x (first.marked x l own)) (λ r. then.marked x r (subst (λ g. IsOwn g x) (sym first.same_graph) own)) m;
  kept = λ x m. then.kept x (first.kept x m);
  only = λ x m. ⊎_elim
      (λ l. ⊎_elim inl (λ new. inr (inl new.0, new.1, then.waits x new.2)) (first.only x l))
      (λ new. inr (inr new.0, subst (λ g. IsOwn g x) first.same_graph new.1, new.2))
      (then.only x m);
  waits = λ x w. then.waits x (first.waits x w);
  waits_only = λ x w. ⊎_elim
      (λ l. ⊎_elim inl (λ m. inr (then.kept x m)) (first.waits_only x l))
      inr
      (then.waits_only x w);
  work = omega (arith, first.work, then.work);
}

-- the same, said in other words
pub marks_as : (may may' : Point → Type 0) (a b : SearchView) → ((x : Point) → may x → may' x) → ((x : Point) → may' x → IsOwn a.graph x → may x) → MarksAll may a b → MarksAll may' a b
marks_as may may' a b to from m = record {
  same_graph = m.same_graph;
  same_most = m.same_most;
  marked = λ x h own. m.marked x (from x h own) own;
  kept = m.kept;
  only = λ x h. ⊎_elim inl (λ new. inr (to x new.0, new.1, new.2)) (m.only x h);
  waits = m.waits;
  waits_only = m.waits_only;
  work = m.work;
}

-- a terminal gets the next number, and no mark
pub grown_marks : (t : Term) (own : PhaseSet) (v : SearchView) → length v.terminals < v.most → length v.reached ≡ length v.terminals
    → MarksAll Nowhere v (record { graph = v.graph; terminals = v.terminals ++ (t, own) ∷ []; most = v.most; reached = v.reached ++ no_phases ∷ []; pending = v.pending })
grown_marks t own v room same = record {
  same_graph = refl;
  same_most = refl;
  marked = λ a h own_a. absurd h;
  kept = λ a (i, (k, at), (s, read, holds)). (i, (k, get_left v.terminals (t, own) i (a.term, k) at), (s, get_left v.reached no_phases i s read, holds));
  only = λ a (i, (k, at), (s, read, holds)). ⊎_elim
      (λ was. ⊎_elim
      (λ there. inl (i, (k, there), (s, was, holds)))
      (λ last. let within = slice_get_within v.reached i s was in absurd (omega (arith, within, last.0, same)))
      (get_cases v.terminals (t, own) i (a.term, k) at))
      (λ last. absurd (no_phase a.phase (subst (λ (q : PhaseSet). IsTrue (has_phase q a.phase)) (sym last.1) holds)))
      (get_cases v.reached no_phases i s read);
  waits = λ a w. w;
  waits_only = λ a w. inl w;
  work = omega (arith, room, sum_by_push lacking v.reached no_phases, length_push v.terminals (t, own));
}

-- and is marked then
pub marks_after : (may : Point → Type 0) (a b c : SearchView) → MarksAll Nowhere a b → MarksAll may b c → MarksAll may a c
marks_after may a b c first then =
    marks_as (λ x. Nowhere x ⊎ may x) may a c (λ x h. ⊎_elim (λ l. absurd l) (λ r. r) h) (λ x h own. inr h) (marks_more Nowhere may a b c first then)

-- a terminal gets marks: i is its number, `own` its phases, `before` those in which it was reached
pub record IsReach (v : SearchView) (t : Term) (phases : PhaseSet) (i : ℕ) (own before new : PhaseSet) : Type 0 where
  pub found : slice_get v.terminals i ≡ Some (t, own)
  pub own_is : own ≡ phases_at v.graph t
  pub read : slice_get v.reached i ≡ Some before
  pub news : (p : Phase) → has_phase new p ≡ ((has_phase phases p && has_phase own p) && not (has_phase before p))

own_phase : (v : SearchView) (t : Term) (own : PhaseSet) → own ≡ phases_at v.graph t → (a : Point) → a.term ≡ t → IsOwn v.graph a → IsTrue (has_phase own a.phase)
own_phase v t own is a at = subst (λ (s : PhaseSet). IsTrue (has_phase s a.phase)) (ap (phases_at v.graph) at ∙ sym is)

phase_own : (v : SearchView) (t : Term) (own : PhaseSet) → own ≡ phases_at v.graph t → (a : Point) → a.term ≡ t → IsTrue (has_phase own a.phase) → IsOwn v.graph a
phase_own v t own is a at = subst (λ (s : PhaseSet). IsTrue (has_phase s a.phase)) (is ∙ sym (ap (phases_at v.graph) at))

-- where nothing is new, it has all marks already
pub reach_nothing : (v : SearchView) (t : Term) (phases : PhaseSet) (i : ℕ) (own before new : PhaseSet) → IsReach v t phases i own before new → ((p : Phase) → has_phase new p ≡ false) → MarksAll (AtTerm t phases) v v
reach_nothing v t phases i own before new r none =
    marks_nothing (AtTerm t phases) v (λ a at own_a.
    let p = a.phase in
    let held : (has_phase before p || has_phase new p) ≡ true = new_phase (has_phase phases p) (has_phase own p) (has_phase before p) (has_phase new p) (r.news p) at.1 (own_phase v t own r.own_is a at.0 own_a) in
    let was : IsTrue (has_phase before p) = ⊎_elim (λ h. h) (λ h. absurd (true≢false (sym h ∙ none p))) (or_cases (has_phase before p) (has_phase new p) held) in
    (i, (own, r.found ∙ ap (λ (u : Term). Some (u, own)) (sym at.0)), (before, r.read, was)))

-- where something is, it is marked and waits
pub reach_some : (v : SearchView) (t : Term) (phases : PhaseSet) (i : ℕ) (own before new joined : PhaseSet) (pending : List (Term × PhaseSet)) → IsReach v t phases i own before new → ((p : Phase) → has_phase joined p ≡ (has_phase before p || has_phase new p)) → has_no_phase new ≡ false → pending ≡ v.pending ++ (t, new) ∷ []
    → MarksAll (AtTerm t phases) v (record { graph = v.graph; terminals = v.terminals; most = v.most; reached = set v.reached i joined; pending = pending })
reach_some v t phases i own before new joined pending r joins some pushed =
    let within : i < length v.reached = slice_get_within v.reached i before r.read in
    let later : SearchView = record { graph = v.graph; terminals = v.terminals; most = v.most; reached = set v.reached i joined; pending = pending } in
    let there : slice_get (set v.reached i joined) i ≡ Some joined = slice_get-set_same v.reached i joined within in
    let into : (w : Term × PhaseSet) → Contains (v.pending ++ (t, new) ∷ []) w → Contains pending w = λ w h. subst (λ (ws : List (Term × PhaseSet)). Contains ws w) (sym pushed) h in
    let out : (w : Term × PhaseSet) → Contains pending w → Contains (v.pending ++ (t, new) ∷ []) w = λ w h. subst (λ (ws : List (Term × PhaseSet)). Contains ws w) pushed h in
    let own_p : (p : Phase) → IsTrue (has_phase new p) → (has_phase phases p ≡ true) × (has_phase own p ≡ true) = λ p h. new_is (has_phase phases p) (has_phase own p) (has_phase before p) (has_phase new p) (r.news p) h in
    let marked_new : (a : Point) → a.term ≡ t → IsTrue (has_phase joined a.phase) → IsMarked later a = λ a at h. (i, (own, r.found ∙ ap (λ (u : Term). Some (u, own)) (sym at)), (joined, there, h)) in
    record {
      same_graph = refl;
      same_most = refl;
      marked = λ a at own_a.
          let p = a.phase in
          marked_new a at.0 (joins p ∙ new_phase (has_phase phases p) (has_phase own p) (has_phase before p) (has_phase new p) (r.news p) at.1 (own_phase v t own r.own_is a at.0 own_a));
      kept = λ a (j, at, (s, read, holds)). ⊎_elim
          (λ same.
          let was : s ≡ before = same_Some s before (sym read ∙ ap (slice_get v.reached) same ∙ r.read) in
          let held : IsTrue (has_phase before a.phase) = subst (λ (q : PhaseSet). IsTrue (has_phase q a.phase)) was holds in
          (j, at, (joined, ap (slice_get (set v.reached i joined)) same ∙ there, joins a.phase ∙ or_left (has_phase before a.phase) (has_phase new a.phase) held)))
          (λ apart. (j, at, (s, slice_get-set_other v.reached i j joined apart ∙ read, holds)))
          (cases_eq j i);
      only = λ a (j, (k, found), (s, read, holds)). ⊎_elim
          (λ same.
          let is : s ≡ joined = same_Some s joined (sym read ∙ ap (slice_get (set v.reached i joined)) same ∙ there) in
          let entry : (a.term, k) ≡ (t, own) = same_Some (a.term, k) (t, own) (sym found ∙ ap (slice_get v.terminals) same ∙ r.found) in
          let at : a.term ≡ t = ap (λ (e : Term × PhaseSet). e.0) entry in
          let has_p : (has_phase before a.phase || has_phase new a.phase) ≡ true = sym (joins a.phase) ∙ subst (λ (q : PhaseSet). IsTrue (has_phase q a.phase)) is holds in
          ⊎_elim
          (λ was. inl (j, (k, found), (before, ap (slice_get v.reached) same ∙ r.read, was)))
          (λ fresh.
          let ours = own_p a.phase fresh in
          inr (
            (at, ours.0),
            phase_own v t own r.own_is a at ours.1,
            (new, into (a.term, new) (subst (λ (u : Term). Contains (v.pending ++ (t, new) ∷ []) (u, new)) (sym at) (Contains-push v.pending (t, new))), fresh),
          ))
          (or_cases (has_phase before a.phase) (has_phase new a.phase) has_p))
          (λ apart. inl (j, (k, found), (s, sym (slice_get-set_other v.reached i j joined apart) ∙ read, holds)))
          (cases_eq j i);
      waits = λ a (s, has, holds). (s, into (a.term, s) (Contains-append_left v.pending ((t, new) ∷ []) (a.term, s) has), holds);
      waits_only = λ a (s, has, holds). ⊎_elim
          (λ l. inl (s, l, holds))
          (λ same.
          let at : a.term ≡ t = sym (ap (λ (e : Term × PhaseSet). e.0) same) in
          let is : s ≡ new = sym (ap (λ (e : Term × PhaseSet). e.1) same) in
          let fresh : IsTrue (has_phase new a.phase) = subst (λ (q : PhaseSet). IsTrue (has_phase q a.phase)) is holds in
          inr (marked_new a at (joins a.phase ∙ or_right (has_phase before a.phase) (has_phase new a.phase) fresh)))
          (Contains-push_cases v.pending (t, new) (a.term, s) (out (a.term, s) has));
      work =
          let fewer = fewer_lack before new joined joins (λ p. new_apart (has_phase phases p) (has_phase own p) (has_phase before p) (has_phase new p) (r.news p)) some in
          let moved = sum_by-set lacking v.reached i joined before within in
          let read : get_or v.reached i before ≡ before = get_or_from_slice_get v.reached i before before r.read in
          omega (arith, fewer, moved, ap lacking read, ap length pushed, length-append v.pending ((t, new) ∷ []));
    }
