-- Parts and rows of a trace, one after another.
use Rattle.std.proofs.Common.{◌≡◌, ◌≢◌, ◌||◌, ◌+◌, ◌<◌, ◌≤◌, ◌⊎◌, ℕ, zero, suc, List, [], ◌∷◌, ◌++◌, length, map, get_or, take, IsTrue, Contains, sym, ap, ◌∙◌, subst, inl, inr, ⊎_elim, arith, ◌↔◌, Some, eqb, eqb-true}
use Rattle.std.specs.List.{AllByRecursion}
use Rattle.std.specs.List.Sorted.{IsStrictlyIncreasing}
use Rattle.std.proofs.lemmas.List.{get_or_default, map_push, take_more}
use Rattle.std.proofs.lemmas.List.Elements.{Contains-append_left, Contains-push, Contains-push_cases}
use Rattle.std.proofs.lemmas.Bool.{or_cases, or_left, or_right}
use Rattle.feeder_trace.specs.Search.{IsMarked, SearchView}
use Rattle.graph_pages.specs.declared.star.Star.{Star}
use Rattle.room_words.specs.declared.term.Point.{Point}
use Rattle.graph_pages.specs.Walks.{wiring}
use Rattle.graph_pages.specs.Graph.{GraphView, star_of}
use Rattle.cim_model.specs.Reach.{IsPointReached, IsReached}
use Rattle.plain_laws.proofs.Members.{contains_nothing}
use Rattle.plain_laws.proofs.Options.{find_among}
use Rattle.cim_words.specs.Phases.{has_phase}
use Rattle.cim_words.specs.declared.phases.Phase.{Phase}
use Rattle.cim_words.specs.declared.phases.PhaseSet.{PhaseSet}
use Rattle.cim_model.specs.Trace.{IsTrace, Lists, Row}
use Rattle.feeder_trace.specs.Rows.{AddsRow, AreRows, Counted, HavePhases, Rises}

-- what a list with one more row lists
pub lists_out : (xs : List Row) (r : Row) (y : ℕ) (p : Phase) → Lists (xs ++ r ∷ []) y p → Lists xs y p ⊎ ((r.0.number ≡ y) × IsTrue (has_phase r.1 p))
lists_out xs r y p l = ⊎_elim
    (λ h. inl (record { row = l.row; stands = h; of_equipment = l.of_equipment; in_phase = l.in_phase }))
    (λ same. inr (subst (λ (s : Row). s.0.number ≡ y) (sym same) l.of_equipment, subst (λ (s : Row). IsTrue (has_phase s.1 p)) (sym same) l.in_phase))
    (Contains-push_cases xs r l.row l.stands)

pub lists_in : (xs : List Row) (r : Row) (y : ℕ) (p : Phase) → Lists xs y p ⊎ ((r.0.number ≡ y) × IsTrue (has_phase r.1 p)) → Lists (xs ++ r ∷ []) y p
lists_in xs r y p h = ⊎_elim
    (λ l. record { row = l.row; stands = Contains-append_left xs (r ∷ []) l.row l.stands; of_equipment = l.of_equipment; in_phase = l.in_phase })
    (λ new. record { row = r; stands = Contains-push xs r; of_equipment = new.0; in_phase = new.1 })
    h

all_more : (ns : List ℕ) (m y n : ℕ) → AllByRecursion (λ k. n < k) (ns ++ m ∷ []) → m < y → AllByRecursion (λ k. n < k) ((ns ++ m ∷ []) ++ y ∷ [])
all_more [] m y n h lt = let first : n < m = h.0 in (first, (omega arith, tt))
all_more (k ∷ ns) m y n h lt = (h.0, all_more ns m y n h.1 lt)

abbrev number_of_row : Row → ℕ
number_of_row row = row.0.number

rises_push : (ns : List ℕ) (m y : ℕ) → Rises (ns ++ m ∷ []) → m < y → Rises ((ns ++ m ∷ []) ++ y ∷ [])
rises_push [] m y h lt = ((lt, tt), (tt, tt))
rises_push (n ∷ ns) m y h lt = (all_more ns m y n h.0 lt, rises_push ns m y h.1 lt)

-- numbers that rise are in ascending order
pub rises_at : (ns : List ℕ) → Rises ns → IsStrictlyIncreasing ns
rises_at [] h k below = absurd (omega arith)
rises_at (n ∷ []) h k below = absurd (omega arith)
rises_at (n ∷ m ∷ ns) h zero below = h.0.0
rises_at (n ∷ m ∷ ns) h (suc k) below =
    let e : suc (k + 1) ≡ suc k + 1 = omega arith in
    subst (λ j. get_or (m ∷ ns) k 0 < get_or (n ∷ m ∷ ns) j 0) e (rises_at (m ∷ ns) h.1 k (omega arith))

have_push : (xs : List Row) (r : Row) → HavePhases xs → (p : Phase) → IsTrue (has_phase r.1 p) → HavePhases (xs ++ r ∷ [])
have_push xs r have p holds row h = ⊎_elim (have row) (λ same. (p, subst (λ (s : Row). IsTrue (has_phase s.1 p)) same holds)) (Contains-push_cases xs r row h)

have_front : (xs : List Row) (r : Row) → HavePhases (xs ++ r ∷ []) → HavePhases xs
have_front xs r have row h = have row (Contains-append_left xs (r ∷ []) row h)

below_push : (xs : List Row) (r : Row) (n : ℕ) → ((row : Row) → Contains xs row → row.0.number ≤ n) → r.0.number ≤ n → (row : Row) → Contains (xs ++ r ∷ []) row → row.0.number ≤ n
below_push xs r n below le row h = ⊎_elim (below row) (λ same. subst (λ (s : Row). s.0.number ≤ n) same le) (Contains-push_cases xs r row h)

-- the first row
pub add_first : (part : Row) → AddsRow part [] (part ∷ [])
add_first part = record {
  lists = λ y p. (lists_out [] part y p, lists_in [] part y p);
  rows = λ are below p holds. record { ascending = (tt, tt); in_some_phase = have_push [] part are.in_some_phase p holds };
  below = λ n below le. below_push [] part n below le;
}

-- a part of the last row
pub add_same : (before : List Row) (last part : Row) (joined : PhaseSet) → last.0.number ≡ part.0.number → ((p : Phase) → has_phase joined p ≡ (has_phase last.1 p || has_phase part.1 p)) → AddsRow part (before ++ last ∷ []) (before ++ (part.0, joined) ∷ [])
add_same before last part joined same joins =
    let new : Row = (part.0, joined) in
    record {
      lists = λ y p. (
        λ l. ⊎_elim
            (λ h. inl (lists_in before last y p (inl h)))
            (λ h. ⊎_elim
            (λ was. inl (lists_in before last y p (inr (same ∙ h.0, was))))
            (λ fresh. inr (h.0, fresh))
            (or_cases (has_phase last.1 p) (has_phase part.1 p) (sym (joins p) ∙ h.1)))
            (lists_out before new y p l),
        λ h. lists_in before new y p (⊎_elim
            (λ l. ⊎_elim inl (λ was. inr (sym same ∙ was.0, joins p ∙ or_left (has_phase last.1 p) (has_phase part.1 p) was.1)) (lists_out before last y p l))
            (λ fresh. inr (fresh.0, joins p ∙ or_right (has_phase last.1 p) (has_phase part.1 p) fresh.1))
            h),
      );
      rows = λ are below p holds. record {
        ascending = subst Rises
            (map_push number_of_row before last ∙ ap (λ n. map (λ (row : Row). row.0.number) before ++ n ∷ []) same ∙ sym (map_push number_of_row before new)) are.ascending;
        in_some_phase = have_push before new (have_front before last are.in_some_phase) p (joins p ∙ or_right (has_phase last.1 p) (has_phase part.1 p) holds);
      };
      below = λ n below le. below_push before new n (λ row h. below row (Contains-append_left before (last ∷ []) row h)) le;
    }

-- the next row
pub add_next : (before : List Row) (last part : Row) → last.0.number ≢ part.0.number → AddsRow part (before ++ last ∷ []) ((before ++ last ∷ []) ++ part ∷ [])
add_next before last part apart =
    let old : List Row = before ++ last ∷ [] in
    record {
      lists = λ y p. (lists_out old part y p, lists_in old part y p);
      rows = λ are below p holds.
          let le : last.0.number ≤ part.0.number = below last (Contains-push before last) in
          let lt : last.0.number < part.0.number = omega arith in
          record {
            ascending = subst Rises (sym (map_push number_of_row old part ∙ ap (λ (ns : List ℕ). ns ++ part.0.number ∷ []) (map_push number_of_row before last)))
                (rises_push (map (λ (row : Row). row.0.number) before) last.0.number part.0.number (subst Rises (map_push number_of_row before last) are.ascending) lt);
            in_some_phase = have_push old part are.in_some_phase p holds;
          };
      below = λ n below le. below_push old part n below le;
    }

-- Where a merge stands after k parts: the rows list what these parts list, and no row stands after a later part.
pub record IsMerged (parts : List Row) (k : ℕ) (rows : List Row) : Type 0 where
  pub are : AreRows rows
  pub out : (y : ℕ) (p : Phase) → Lists rows y p → Lists (take k parts) y p
  pub into : (y : ℕ) (p : Phase) → Lists (take k parts) y p → Lists rows y p
  pub below : (j : ℕ) (d : Row) → k ≤ j → j < length parts → (row : Row) → Contains rows row → row.0.number ≤ (get_or parts j d).0.number

lists_nothing : {P : Type 0} (y : ℕ) (p : Phase) → Lists [] y p → P
lists_nothing y p l = contains_nothing l.row l.stands

pub merge_begins : (parts rows : List Row) → rows ≡ [] → IsMerged parts 0 rows
merge_begins parts rows none = subst (IsMerged parts 0) (sym none) (record {
  are = record { ascending = tt; in_some_phase = λ row h. contains_nothing row h };
  out = λ y p l. lists_nothing y p l;
  into = λ y p l. lists_nothing y p l;
  below = λ j d le within row h. contains_nothing row h;
})

pub merge_more : (parts : List Row) (k : ℕ) (part d : Row) (old new : List Row) → k < length parts → part ≡ get_or parts k d → ((i j : ℕ) (d : Row) → i ≤ j → j < length parts → (get_or parts i d).0.number ≤ (get_or parts j d).0.number) → HavePhases parts → IsMerged parts k old → AddsRow part old new → IsMerged parts (k + 1) new
merge_more parts k part d old new within is rises have m adds =
    let grown : take k parts ++ part ∷ [] ≡ take (k + 1) parts = ap (λ (u : Row). take k parts ++ u ∷ []) is ∙ sym (take_more parts k d within) in
    let stands : Contains parts part = subst (Contains parts) (sym is) (k, within, sym (get_or_default parts k d (get_or parts k d) within)) in
    let some = have part stands in
    record {
      are = adds.rows m.are (λ row h. subst (λ (r : Row). row.0.number ≤ r.0.number) (sym is) (m.below k d (omega arith) within row h)) some.0 some.1;
      out = λ y p l. subst (λ (ps : List Row). Lists ps y p) grown (lists_in (take k parts) part y p (⊎_elim (λ h. inl (m.out y p h)) inr ((adds.lists y p).0 l)));
      into = λ y p l. (adds.lists y p).1 (⊎_elim (λ h. inl (m.into y p h)) inr (lists_out (take k parts) part y p (subst (λ (ps : List Row). Lists ps y p) (sym grown) l)));
      below = λ j e le inside row h.
          let first : part.0.number ≤ (get_or parts j e).0.number = subst (λ (r : Row). r.0.number ≤ (get_or parts j e).0.number) (sym (is ∙ get_or_default parts k d e within)) (rises k j e (omega arith) inside) in
          adds.below (get_or parts j e).0.number (m.below j e (omega arith) inside) first row h;
    }

-- the same rows in another order list the same
pub lists_map : (xs ys : List Row) (y : ℕ) (p : Phase) → ((row : Row) → Contains xs row → Contains ys row) → Lists xs y p → Lists ys y p
lists_map xs ys y p moves l = record { row = l.row; stands = moves l.row l.stands; of_equipment = l.of_equipment; in_phase = l.in_phase }

-- ---- what the rows of a trace say is what is reached

-- a star is found under its own identifier
pub own_number : (g : GraphView) (x : ℕ) (star : Star) → star_of g x ≡ Some star → star.id.number ≡ x
own_number g x star at = eqb-true star.id.number x (find_among (λ (star : Star). eqb star.id.number x) g.stars star at).1

pub traced : (g : GraphView) (x : ℕ) (asked : PhaseSet) (v : SearchView) (parts rows : List Row) → ((a : Point) → IsMarked v a ↔ IsPointReached (wiring g) x asked a) → ((y : ℕ) (p : Phase) → Lists parts y p ↔ Counted g v y p) → AreRows rows → ((y : ℕ) (p : Phase) → Lists rows y p ↔ Lists parts y p) → IsTrace (IsReached (wiring g) x asked) rows
traced g x asked v parts rows walked counted are same = record {
  ascending = rises_at (map (λ (row : Row). row.0.number) rows) are.ascending;
  in_some_phase = are.in_some_phase;
  complete = λ y p r. (same y p).1 ((counted y p).1 (r.term, r.counts, (walked (record { term = r.term; phase = p })).1 r.reached));
  sound = λ y p l.
      let h = (counted y p).0 ((same y p).0 l) in
      record { term = h.0; counts = h.1; reached = (walked (record { term = h.0; phase = p })).0 h.2 };
}
