-- That a search keeps the memory that it needs.
use Rattle.std.proofs.Common.{◌≡◌, ◌+◌, ◌<◌, ◌≤◌, ◌*◌, ◌&&◌, ◌||◌, not, ℕ, false, List, [], ◌∷◌, ◌++◌, length, Some, slice_get, get_or, set, Contains, sum_by, Vec, refl, sym, ap, ◌∙◌, subst, arith, length-set, length-append}
use Rattle.std.specs.Vec.{vec_capacity}
use Rattle.std.specs.declared.alloc.Global.{Global}
use Rattle.std.proofs.lemmas.List.{length_push}
use Rattle.std.proofs.lemmas.List.Sums.{sum_by-set, sum_by_push, get_or-le-sum_by}
use Rattle.std.proofs.lemmas.Option.{get_or_from_slice_get, slice_get_read, slice_get_within}
use Rattle.cim_model.specs.Phases.{no_phases}
use Rattle.cim_words.specs.Phases.{has_phase, has_no_phase}
use Rattle.cim_words.specs.declared.phases.Phase.{Phase}
use Rattle.cim_words.specs.declared.phases.PhaseSet.{PhaseSet}
use Rattle.graph_pages.specs.Graph.{GraphView}
use Rattle.graph_pages.specs.Size.{listed_spokes}
use Rattle.graph_pages.specs.Walks.{phases_at}
use Rattle.room_words.specs.declared.term.Term.{Term}
use Rattle.feeder_trace.specs.Room.{HasRoom, view_of}
use Rattle.feeder_trace.specs.Search.{AtTerm, MarksAll, Nowhere, SearchView, lacking}
use Rattle.feeder_trace.specs.Numbering.{IsNumbering}
use Rattle.feeder_trace.specs.Views.{TerminalsView}
use Rattle.feeder_trace.specs.declared.search.Search.TheInside.{Inside}
use Rattle.feeder_trace.proofs.MarkLemmas.{IsReach, grown_marks, reach_nothing, reach_some}
use Rattle.feeder_trace.proofs.NumberingLemmas.{numbering_more, numbering_none}
use Rattle.feeder_trace.proofs.PhaseLemmas.{fewer_lack, new_apart}
use Rattle.feeder_trace.proofs.SizeLemmas.{numbering_within}

-- the phases of a numbered terminal
pub own_phases : (s : Inside) → HasRoom s → (v : SearchView) → view_of s ≡ v → (t : Term) (i : ℕ) (own : PhaseSet) → slice_get s.terminals.listed i ≡ Some (t, own) → own ≡ phases_at v.graph t
own_phases s room v seen t i own at =
    subst (λ (u : SearchView). own ≡ phases_at u.graph t) seen
    (room.numbering.sound t own (i, slice_get_within s.terminals.listed i (t, own) at, get_or_from_slice_get s.terminals.listed i (t, own) (t, own) at))

pub terminals_within : (s : Inside) → HasRoom s → length s.terminals.listed ≤ s.terminals.most
terminals_within s room = omega (arith, room.enough, numbering_within s.graph s.terminals.listed room.numbering)

-- A terminal is marked: i is its number, `own` its phases, `before` those in which it was reached, `met` its own ones among those that are
-- asked for, and `new` what is new of them.
module _ (s : Inside) (room : HasRoom s) (v : SearchView) (seen : view_of s ≡ v) (t : Term) (phases : PhaseSet) (i : ℕ) (own before met new : PhaseSet) (at : slice_get v.terminals i ≡ Some (t, own)) (is : own ≡ phases_at v.graph t) (read : before ≡ get_or s.reached.items i before) (meets : (p : Phase) → has_phase met p ≡ (has_phase phases p && has_phase own p)) (news : (p : Phase) → has_phase new p ≡ (has_phase met p && not (has_phase before p))) where
  found : slice_get s.terminals.listed i ≡ Some (t, own)
  found = subst (λ (u : SearchView). slice_get u.terminals i ≡ Some (t, own)) (sym seen) at

  within : i < length s.reached.items
  within = let w = slice_get_within s.terminals.listed i (t, own) found in omega (arith, room.same_length, w)

  reach : IsReach (view_of s) t phases i own before new
  reach = record {
    found = found;
    own_is = subst (λ (u : SearchView). own ≡ phases_at u.graph t) (sym seen) is;
    read = slice_get_read s.reached.items (length s.reached.items) i before refl within read;
    news = λ p. news p ∙ ap (λ b. b && not (has_phase before p)) (meets p);
  }

  pub mark_nothing : ((p : Phase) → has_phase new p ≡ false) → MarksAll (AtTerm t phases) v v
  mark_nothing none = subst (λ (u : SearchView). MarksAll (AtTerm t phases) u u) seen (reach_nothing (view_of s) t phases i own before new reach none)

  module _ (joined : PhaseSet) (joins : (p : Phase) → has_phase joined p ≡ (has_phase before p || has_phase new p)) (some : has_no_phase new ≡ false) where
    fewer : lacking joined + 1 ≤ lacking before
    fewer = fewer_lack before new joined joins (λ p. new_apart (has_phase phases p) (has_phase own p) (has_phase before p) (has_phase new p) (reach.news p)) some

    stood : lacking (get_or s.reached.items i before) ≡ lacking before
    stood = ap lacking (sym read)

    -- there is room for what is new
    pub room_to_wait : length s.pending.items < vec_capacity s.pending
    room_to_wait =
        let most = get_or-le-sum_by lacking s.reached.items i before within in
        omega (arith, fewer, stood, most, room.pending_within, room.pending_room)

    -- and for more afterwards
    pub room_more : (reached : Vec PhaseSet Global) (pending : Vec (Term × PhaseSet) Global) → reached.items ≡ set s.reached.items i joined → vec_capacity s.reached ≤ vec_capacity reached → pending.items ≡ s.pending.items ++ (t, new) ∷ [] → vec_capacity s.pending ≤ vec_capacity pending
        → HasRoom (record { graph = s.graph; terminals = s.terminals; reached = reached; pending = pending })
    room_more reached pending all roomy pushed wider =
        let moved = sum_by-set lacking s.reached.items i joined before within in
        let same : length reached.items ≡ length s.reached.items = ap length all ∙ length-set s.reached.items i joined in
        let sums = ap (sum_by lacking) all in
        record {
          numbering = room.numbering;
          enough = room.enough;
          same_length = same ∙ room.same_length;
          reached_room = omega (arith, room.reached_room, roomy);
          pending_within = omega (arith, fewer, moved, sums, stood, ap length pushed, length-append s.pending.items ((t, new) ∷ []), room.pending_within);
          pending_room = omega (arith, wider, room.pending_room);
        }

    -- and it is marked
    pub mark_some : (pending : List (Term × PhaseSet)) → pending ≡ s.pending.items ++ (t, new) ∷ [] → MarksAll (AtTerm t phases) v (record { graph = s.graph; terminals = s.terminals.listed; most = s.terminals.most; reached = set s.reached.items i joined; pending = pending })
    mark_some pending pushed =
        subst (λ (u : SearchView). MarksAll (AtTerm t phases) u (record { graph = s.graph; terminals = s.terminals.listed; most = s.terminals.most; reached = set s.reached.items i joined; pending = pending })) seen
        (reach_some (view_of s) t phases i own before new joined pending reach joins some pushed)

-- a terminal gets a number
module _ (s : Inside) (room : HasRoom s) (v : SearchView) (seen : view_of s ≡ v) (t : Term) (own : PhaseSet) (is : own ≡ phases_at v.graph t) (some : has_no_phase own ≡ false) (absent : (other : PhaseSet) → Contains v.terminals (t, other) → ⊥) where
  pub still_absent : (other : PhaseSet) → Contains s.terminals.listed (t, other) → ⊥
  still_absent other h = absent other (subst (λ (u : SearchView). Contains u.terminals (t, other)) seen h)

  one_more : IsNumbering s.graph (s.terminals.listed ++ (t, own) ∷ [])
  one_more = numbering_more s.graph s.terminals.listed t own (subst (λ (u : SearchView). own ≡ phases_at u.graph t) (sym seen) is) some still_absent room.numbering

  pub room_to_enter : length s.terminals.listed < s.terminals.most
  room_to_enter =
      let few = numbering_within s.graph (s.terminals.listed ++ (t, own) ∷ []) one_more in
      omega (arith, few, length_push s.terminals.listed (t, own), room.enough)

  pub room_entered : (terminals : TerminalsView) (reached : Vec PhaseSet Global) → terminals.listed ≡ s.terminals.listed ++ (t, own) ∷ [] → terminals.most ≡ s.terminals.most → reached.items ≡ s.reached.items ++ no_phases ∷ [] → vec_capacity s.reached ≤ vec_capacity reached
      → HasRoom (record { graph = s.graph; terminals = terminals; reached = reached; pending = s.pending })
  room_entered terminals reached entered same pushed roomy =
      let longer = ap length entered ∙ length_push s.terminals.listed (t, own) in
      let sums = ap (sum_by lacking) pushed ∙ sum_by_push lacking s.reached.items no_phases in
      record {
        numbering = rw entered one_more;
        enough = omega (arith, same, room.enough);
        same_length = omega (arith, longer, ap length pushed, length_push s.reached.items no_phases, room.same_length);
        reached_room = omega (arith, same, room.reached_room, roomy);
        pending_within = omega (arith, sums, longer, same, room_to_enter, room.pending_within);
        pending_room = omega (arith, same, room.pending_room);
      }

  -- and nothing is marked
  pub entered_marks : (terminals : TerminalsView) (reached : List PhaseSet) → terminals.listed ≡ s.terminals.listed ++ (t, own) ∷ [] → terminals.most ≡ s.terminals.most → reached ≡ s.reached.items ++ no_phases ∷ []
      → MarksAll Nowhere v (record { graph = s.graph; terminals = terminals.listed; most = terminals.most; reached = reached; pending = s.pending.items })
  entered_marks terminals reached entered same pushed =
      let later : List (Term × PhaseSet) → ℕ → List PhaseSet → SearchView = λ listed most sets. record { graph = s.graph; terminals = listed; most = most; reached = sets; pending = s.pending.items } in
      subst (λ (u : SearchView). MarksAll Nowhere u (later terminals.listed terminals.most reached)) seen
      (rw entered (rw same (rw pushed (grown_marks t own (view_of s) room_to_enter room.same_length))))

-- a search in which nothing is marked has room
pub room_empty : (g : GraphView) (terminals : TerminalsView) (reached : Vec PhaseSet Global) (pending : Vec (Term × PhaseSet) Global) → terminals.listed ≡ [] → listed_spokes g ≤ terminals.most → reached.items ≡ [] → pending.items ≡ [] → terminals.most ≤ vec_capacity reached → 6 * terminals.most ≤ vec_capacity pending
    → HasRoom (record { graph = g; terminals = terminals; reached = reached; pending = pending })
room_empty g terminals reached pending none enough unmarked_all idle roomy waits = record {
  numbering = numbering_none g terminals.listed none;
  enough = enough;
  same_length = ap length unmarked_all ∙ sym (ap length none);
  reached_room = roomy;
  pending_within = omega (arith, ap length none, ap (sum_by lacking) unmarked_all, ap length idle);
  pending_room = waits;
}
