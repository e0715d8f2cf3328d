-- What the terminals that a search reached count for, one after another.
use Rattle.std.proofs.Common.{◌≡◌, ◌&&◌, ◌+◌, ◌<◌, ◌≤◌, ℕ, List, [], ◌∷◌, ◌++◌, length, vec_len, Vec, Some, option_map, slice_get, IsTrue, Contains, sym, ap, ◌∙◌, subst, inl, inr, ⊎_elim, arith}
use Rattle.std.specs.Vec.{vec_capacity}
use Rattle.std.specs.declared.alloc.Global.{Global}
use Rattle.std.proofs.lemmas.List.Elements.{Contains-push_cases}
use Rattle.std.proofs.lemmas.Option.{same_Some, slice_get_within}
use Rattle.std.proofs.lemmas.Bool.{and_from, and_parts, cases_eq}
use Rattle.plain_laws.proofs.Members.{contains_nothing}
use Rattle.cim_words.specs.Phases.{has_phase}
use Rattle.cim_words.specs.declared.identifier.Id.{Id}
use Rattle.cim_words.specs.declared.phases.Phase.{Phase}
use Rattle.cim_words.specs.declared.phases.PhaseSet.{PhaseSet}
use Rattle.cim_model.specs.Trace.{Row, Lists}
use Rattle.graph_pages.specs.Graph.{GraphView, star_of}
use Rattle.graph_pages.specs.Walks.{CountsFor, line_of, line_phases}
use Rattle.graph_pages.specs.declared.star.Star.{Star}
use Rattle.room_words.specs.declared.term.Term.{Term}
use Rattle.feeder_trace.specs.Rows.{AddsParts, Counted, HavePhases}
use Rattle.feeder_trace.specs.Search.{SearchView, IsAt, IsSet}
use Rattle.feeder_trace.proofs.RowLemmas.{lists_in, lists_out}

-- one part
pub parts_push : (id : Id) (phases : PhaseSet) (old new : Vec Row Global) (p : Phase) → IsTrue (has_phase phases p) → new.items ≡ old.items ++ (id, phases) ∷ [] → vec_len new ≡ vec_len old + 1 → vec_capacity old ≤ vec_capacity new → AddsParts (λ y q. (id.number ≡ y) × IsTrue (has_phase phases q)) 1 old new
parts_push id phases old new p holds pushed len wider = record {
  lists = λ y q. (λ l. lists_out old.items (id, phases) y q (subst (λ (rows : List Row). Lists rows y q) pushed l), λ h. subst (λ (rows : List Row). Lists rows y q) (sym pushed) (lists_in old.items (id, phases) y q h));
  in_some_phase = λ have row h. ⊎_elim (have row) (λ same. (p, subst (λ (s : Row). IsTrue (has_phase s.1 p)) same holds))
      (Contains-push_cases old.items (id, phases) row (subst (λ (rows : List Row). Contains rows row) pushed h));
  len = omega (arith, len);
  capacity = wider;
}

-- one part and another
pub parts_both : (g : GraphView) (t : Term) (star : Star) (segment : Id) (reached met line : PhaseSet) (a b c : Vec Row Global) → star_of g t.owner.number ≡ Some star → star.on ≡ Some segment → line ≡ line_phases (line_of g segment.number) → ((p : Phase) → has_phase met p ≡ (has_phase reached p && has_phase line p))
    → AddsParts (λ y p. (t.owner.number ≡ y) × IsTrue (has_phase reached p)) 1 a b → AddsParts (λ y p. (segment.number ≡ y) × IsTrue (has_phase met p)) 1 b c → AddsParts (λ y p. CountsFor g t y p × IsTrue (has_phase reached p)) 2 a c
parts_both g t star segment reached met line a b c at on is meets first then = record {
  lists = λ y p. (
    λ l. ⊎_elim
        (λ l. ⊎_elim inl (λ h. inr (inl h.0, h.1)) ((first.lists y p).0 l))
        (λ h.
        let both = and_parts (has_phase reached p) (has_phase line p) (sym (meets p) ∙ h.1) in
        let of_line : IsTrue (has_phase (line_phases (line_of g y)) p) = subst (λ n. IsTrue (has_phase (line_phases (line_of g n)) p)) h.0 (subst (λ (s : PhaseSet). IsTrue (has_phase s p)) is both.1) in
        inr (inr (star, at, ap (option_map (λ (on : Id). on.number)) on ∙ ap Some h.0, of_line), both.0))
        ((then.lists y p).0 l),
    λ h. (then.lists y p).1 (⊎_elim
        (λ l. inl ((first.lists y p).1 (inl l)))
        (λ new. ⊎_elim
        (λ own. inl ((first.lists y p).1 (inr (own, new.1))))
        (λ (star', at', on', of_line).
        let same : star' ≡ star = same_Some star' star (sym at' ∙ at) in
        let number : segment.number ≡ y = same_Some segment.number y (ap (option_map (λ (on : Id). on.number)) (sym on ∙ ap (λ (s : Star). s.on) (sym same)) ∙ on') in
        let in_line : IsTrue (has_phase line p) = subst (λ (s : PhaseSet). IsTrue (has_phase s p)) (sym is) (subst (λ n. IsTrue (has_phase (line_phases (line_of g n)) p)) (sym number) of_line) in
        inr (number, meets p ∙ and_from (has_phase reached p) (has_phase line p) new.1 in_line))
        new.0)
        h),
  );
  in_some_phase = λ have. then.in_some_phase (first.in_some_phase have);
  len = omega (arith, first.len, then.len);
  capacity = omega (arith, first.capacity, then.capacity);
}

-- what the terminals with the first numbers count for
abbrev pub CountedIn : GraphView → SearchView → ℕ → ℕ → Phase → Type 0
CountedIn g v n y p = (i : ℕ) × (i < n) × (t : Term) × IsAt v i t × CountsFor g t y p × IsSet v.reached i p

-- where a gathering stands after some numbers
pub record IsGathered (g : GraphView) (v : SearchView) (n : ℕ) (parts : List Row) : Type 0 where
  pub out : (y : ℕ) (p : Phase) → Lists parts y p → CountedIn g v n y p
  pub into : (y : ℕ) (p : Phase) → CountedIn g v n y p → Lists parts y p
  pub have : HavePhases parts

pub gather_begins : (g : GraphView) (v : SearchView) (parts : List Row) → parts ≡ [] → IsGathered g v 0 parts
gather_begins g v parts none = subst (IsGathered g v 0) (sym none) (record {
  out = λ y p l. contains_nothing l.row l.stands;
  into = λ y p h. absurd (omega (arith, h.1));
  have = λ row h. contains_nothing row h;
})

pub gather_more : (g : GraphView) (v : SearchView) (n : ℕ) (t : Term) (set : PhaseSet) (a b : Vec Row Global) → IsAt v n t → slice_get v.reached n ≡ Some set → AddsParts (λ y p. CountsFor g t y p × IsTrue (has_phase set p)) 2 a b → IsGathered g v n a.items → IsGathered g v (n + 1) b.items
gather_more g v n t set a b at read adds m = record {
  out = λ y p l. ⊎_elim
      (λ l. let h = m.out y p l in (h.0, omega (arith, h.1), h.2, h.3, h.4, h.5))
      (λ new. (n, omega arith, t, at, new.0, (set, read, new.1)))
      ((adds.lists y p).0 l);
  into = λ y p (i, below, t', at', counts, is). (adds.lists y p).1 (⊎_elim
      (λ same.
      let entry : (t', at'.0) ≡ (t, at.0) = same_Some (t', at'.0) (t, at.0) (sym at'.1 ∙ ap (slice_get v.terminals) same ∙ at.1) in
      let term : t' ≡ t = ap (λ (e : Term × PhaseSet). e.0) entry in
      let held : is.0 ≡ set = same_Some is.0 set (sym is.1 ∙ ap (slice_get v.reached) same ∙ read) in
      inr (subst (λ (u : Term). CountsFor g u y p) term counts, subst (λ (s : PhaseSet). IsTrue (has_phase s p)) held is.2))
      (λ apart. inl (m.into y p (i, omega (arith, below, apart), t', at', counts, is)))
      (cases_eq i n));
  have = adds.in_some_phase m.have;
}

pub gathered_out : (g : GraphView) (v : SearchView) (n : ℕ) (parts : List Row) → IsGathered g v n parts → (y : ℕ) (p : Phase) → Lists parts y p → Counted g v y p
gathered_out g v n parts m y p l = let h = m.out y p l in (h.2, h.4, (h.0, h.3, h.5))

pub gathered_in : (g : GraphView) (v : SearchView) (n : ℕ) (parts : List Row) → IsGathered g v n parts → length v.terminals ≤ n → (y : ℕ) (p : Phase) → Counted g v y p → Lists parts y p
gathered_in g v n parts m all y p (t, counts, (i, at, is)) =
    let within = slice_get_within v.terminals i (t, at.0) at.1 in
    m.into y p (i, omega (arith, within, all), t, at, counts, is)
