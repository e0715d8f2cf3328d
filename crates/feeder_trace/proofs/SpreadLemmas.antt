-- How the points to which current goes on are marked, step by step.
use Rattle.std.proofs.Common.{find, ◌&&◌, ◌≡◌, ◌+◌, ◌<◌, ◌⊎◌, ℕ, Bool, false, not, List, [], ◌∷◌, ◌++◌, length, map, take, get_or, Option, Some, None, IsTrue, Contains, refl, sym, ap, ◌∙◌, subst, inl, inr, ⊎_elim}
use Rattle.std.proofs.lemmas.List.{map_push, take_more}
use Rattle.std.proofs.lemmas.List.Elements.{Contains-append_left, Contains-push, Contains-push_cases}
use Rattle.cim_words.specs.Phases.{has_phase}
use Rattle.cim_words.specs.declared.phases.PhaseSet.{PhaseSet}
use Rattle.cim_words.specs.declared.phases.Phase.{Phase}
use Rattle.cim_words.specs.PhaseNames.{and_then}
use Rattle.cim_model.specs.Links.{lets_through}
use Rattle.cim_model.specs.Phases.{Transforms}
use Rattle.graph_pages.specs.Graph.{GraphView, star_of}
use Rattle.room_words.specs.Terms.{same_term}
use Rattle.graph_pages.specs.Walks.{HasSpoke, Line, Passes, line_at, line_in, line_phases, listed_phases, own_or_on, phases_at, place_at, spoke_of, spoke_phases}
use Rattle.room_words.specs.declared.term.Point.{Point}
use Rattle.graph_pages.specs.declared.star.Pass.{Pass}
use Rattle.graph_pages.specs.declared.star.Pass.TheVariants as pass
use Rattle.graph_pages.specs.declared.star.Star.{Star}
use Rattle.std.proofs.lemmas.Option.{same_Some}
use Rattle.std.proofs.lemmas.Bool.{and_from, and_parts}
use Rattle.room_words.proofs.Compared.{term_exact}
use Rattle.graph_pages.specs.declared.star.SpokePhases.TheVariants.{OfSegment}
use Rattle.plain_laws.proofs.Members.{contains_nothing}
use Rattle.plain_laws.proofs.Options.{find_among, some_none}
use Rattle.graph_pages.specs.declared.star.Spoke.{Spoke}
use Rattle.room_words.specs.declared.term.Term.{Term}
use Rattle.feeder_trace.specs.Search.{SearchView, MarksAll, AtTerm}
use Rattle.feeder_trace.specs.Spread.{AmongMembers, AmongSpokes, AtPlaceOf, AlongLineOf, InSectionOf, InSections, JoinedFrom, PassedFrom}
use Rattle.feeder_trace.proofs.MarkLemmas.{marks_nothing, marks_more, marks_as}

pub members_none : (members : List Term) (phases : PhaseSet) (v : SearchView) → MarksAll (AmongMembers (take 0 members) phases) v v
members_none members phases v = marks_nothing (AmongMembers (take 0 members) phases) v (λ a h own. contains_nothing a.term h.0)

members_push : (members : List Term) (t : Term) (phases : PhaseSet) (a b c : SearchView) → MarksAll (AmongMembers members phases) a b → MarksAll (AtTerm t phases) b c → MarksAll (AmongMembers (members ++ t ∷ []) phases) a c
members_push members t phases a b c first then =
    marks_as (λ x. AmongMembers members phases x ⊎ AtTerm t phases x) (AmongMembers (members ++ t ∷ []) phases) a c
    (λ x h. ⊎_elim (λ l. (Contains-append_left members (t ∷ []) x.term l.0, l.1)) (λ r. (subst (Contains (members ++ t ∷ [])) (sym r.0) (Contains-push members t), r.1)) h)
    (λ x h own. ⊎_elim (λ l. inl (l, h.1)) (λ same. inr (sym same, h.1)) (Contains-push_cases members t x.term h.0))
    (marks_more (AmongMembers members phases) (AtTerm t phases) a b c first then)

pub members_more : (members : List Term) (i : ℕ) (t d : Term) (phases : PhaseSet) (a b c : SearchView) → i < length members → t ≡ get_or members i d → MarksAll (AmongMembers (take i members) phases) a b → MarksAll (AtTerm t phases) b c → MarksAll (AmongMembers (take (i + 1) members) phases) a c
members_more members i t d phases a b c within is first then =
    let grown : take i members ++ t ∷ [] ≡ take (i + 1) members = ap (λ (u : Term). take i members ++ u ∷ []) is ∙ sym (take_more members i d within) in
    subst (λ (ms : List Term). MarksAll (AmongMembers ms phases) a c) grown (members_push (take i members) t phases a b c first then)

terms : List Spoke → List Term
terms spokes = map (λ (spoke : Spoke). spoke.term) spokes

pub spokes_none : (spokes : List Spoke) (except : Option Term) (phases : PhaseSet) (v : SearchView) → MarksAll (AmongSpokes (take 0 spokes) except phases) v v
spokes_none spokes except phases v = marks_nothing (AmongSpokes (take 0 spokes) except phases) v (λ a h own. contains_nothing a.term h.0)

spokes_push : (spokes : List Spoke) (s : Spoke) (except : Option Term) (phases : PhaseSet) (a b c : SearchView) → MarksAll (AmongSpokes spokes except phases) a b
    → MarksAll (λ x. AtTerm s.term phases x × (Some s.term ≡ except → ⊥)) b c → MarksAll (AmongSpokes (spokes ++ s ∷ []) except phases) a c
spokes_push spokes s except phases a b c first then =
    let ts : List Term = map (λ (spoke : Spoke). spoke.term) spokes in
    let grown = map_push (λ (spoke : Spoke). spoke.term) spokes s in
    marks_as (λ x. AmongSpokes spokes except phases x ⊎ (AtTerm s.term phases x × (Some s.term ≡ except → ⊥))) (AmongSpokes (spokes ++ s ∷ []) except phases) a c
    (λ x h. ⊎_elim
    (λ l. (subst (λ (us : List Term). Contains us x.term) (sym grown) (Contains-append_left ts (s.term ∷ []) x.term l.0), l.1, l.2))
    (λ r. (subst (λ (us : List Term). Contains us x.term) (sym grown) (subst (Contains (ts ++ s.term ∷ [])) (sym r.0.0) (Contains-push ts s.term)), (λ e. r.1 (ap Some (sym r.0.0) ∙ e)), r.0.1))
    h)
    (λ x h own. ⊎_elim
    (λ l. inl (l, h.1, h.2))
    (λ same. inr ((sym same, h.2), (λ e. h.1 (ap Some (sym same) ∙ e))))
    (Contains-push_cases ts s.term x.term (subst (λ (us : List Term). Contains us x.term) grown h.0)))
    (marks_more (AmongSpokes spokes except phases) (λ x. AtTerm s.term phases x × (Some s.term ≡ except → ⊥)) a b c first then)

spokes_next : (spokes : List Spoke) (i : ℕ) (s d : Spoke) (except : Option Term) (phases : PhaseSet) (a b c : SearchView) → i < length spokes → s ≡ get_or spokes i d → MarksAll (AmongSpokes (take i spokes) except phases) a b
    → MarksAll (λ x. AtTerm s.term phases x × (Some s.term ≡ except → ⊥)) b c → MarksAll (AmongSpokes (take (i + 1) spokes) except phases) a c
spokes_next spokes i s d except phases a b c within is first then =
    let grown : take i spokes ++ s ∷ [] ≡ take (i + 1) spokes = ap (λ (u : Spoke). take i spokes ++ u ∷ []) is ∙ sym (take_more spokes i d within) in
    subst (λ (ss : List Spoke). MarksAll (AmongSpokes ss except phases) a c) grown (spokes_push (take i spokes) s except phases a b c first then)

-- one spoke is left out
pub spokes_skip : (spokes : List Spoke) (i : ℕ) (s d : Spoke) (except : Option Term) (phases : PhaseSet) (a b : SearchView) → i < length spokes → s ≡ get_or spokes i d → Some s.term ≡ except → MarksAll (AmongSpokes (take i spokes) except phases) a b → MarksAll (AmongSpokes (take (i + 1) spokes) except phases) a b
spokes_skip spokes i s d except phases a b within is out first =
    spokes_next spokes i s d except phases a b b within is first
    (marks_nothing (λ x. AtTerm s.term phases x × (Some s.term ≡ except → ⊥)) b (λ x h own. absurd (h.1 out)))

-- one more spoke
pub spokes_more : (spokes : List Spoke) (i : ℕ) (s d : Spoke) (except : Option Term) (phases : PhaseSet) (a b c : SearchView) → i < length spokes → s ≡ get_or spokes i d → (Some s.term ≡ except → ⊥) → MarksAll (AmongSpokes (take i spokes) except phases) a b → MarksAll (AtTerm s.term phases) b c → MarksAll (AmongSpokes (take (i + 1) spokes) except phases) a c
spokes_more spokes i s d except phases a b c within is stays first then =
    spokes_next spokes i s d except phases a b c within is first
    (marks_as (AtTerm s.term phases) (λ x. AtTerm s.term phases x × (Some s.term ≡ except → ⊥)) b c (λ x h. (h, stays)) (λ x h own. h.0) then)

pub sections_none : (sections : List (List Term)) (t : Term) (phases : PhaseSet) (v : SearchView) → MarksAll (InSections (take 0 sections) t phases) v v
sections_none sections t phases v = marks_nothing (InSections (take 0 sections) t phases) v (λ a h own. contains_nothing h.0 h.1)

sections_push : (sections : List (List Term)) (section : List Term) (t : Term) (phases : PhaseSet) (a b c : SearchView) → MarksAll (InSections sections t phases) a b
    → MarksAll (λ x. Contains section t × AmongMembers section phases x) b c → MarksAll (InSections (sections ++ section ∷ []) t phases) a c
sections_push sections section t phases a b c first then =
    marks_as (λ x. InSections sections t phases x ⊎ (Contains section t × AmongMembers section phases x)) (InSections (sections ++ section ∷ []) t phases) a c
    (λ x h. ⊎_elim
    (λ l. (l.0, Contains-append_left sections (section ∷ []) l.0 l.1, l.2, l.3, l.4))
    (λ r. (section, Contains-push sections section, r.0, r.1.0, r.1.1))
    h)
    (λ x h own. ⊎_elim
    (λ l. inl (h.0, l, h.2, h.3, h.4))
    (λ same. inr (subst (λ (s : List Term). Contains s t) (sym same) h.2, (subst (λ (s : List Term). Contains s x.term) (sym same) h.3, h.4)))
    (Contains-push_cases sections section h.0 h.1))
    (marks_more (InSections sections t phases) (λ x. Contains section t × AmongMembers section phases x) a b c first then)

sections_next : (sections : List (List Term)) (i : ℕ) (section d : List Term) (t : Term) (phases : PhaseSet) (a b c : SearchView) → i < length sections → section ≡ get_or sections i d → MarksAll (InSections (take i sections) t phases) a b
    → MarksAll (λ x. Contains section t × AmongMembers section phases x) b c → MarksAll (InSections (take (i + 1) sections) t phases) a c
sections_next sections i section d t phases a b c within is first then =
    let grown : take i sections ++ section ∷ [] ≡ take (i + 1) sections = ap (λ (u : List Term). take i sections ++ u ∷ []) is ∙ sym (take_more sections i d within) in
    subst (λ (ss : List (List Term)). MarksAll (InSections ss t phases) a c) grown (sections_push (take i sections) section t phases a b c first then)

pub sections_skip : (sections : List (List Term)) (i : ℕ) (section d : List Term) (t : Term) (phases : PhaseSet) (a b : SearchView) → i < length sections → section ≡ get_or sections i d → (Contains section t → ⊥) → MarksAll (InSections (take i sections) t phases) a b → MarksAll (InSections (take (i + 1) sections) t phases) a b
sections_skip sections i section d t phases a b within is out first =
    sections_next sections i section d t phases a b b within is first
    (marks_nothing (λ x. Contains section t × AmongMembers section phases x) b (λ x h own. absurd (out h.0)))

pub sections_more : (sections : List (List Term)) (i : ℕ) (section d : List Term) (t : Term) (phases : PhaseSet) (a b c : SearchView) → i < length sections → section ≡ get_or sections i d → Contains section t → MarksAll (InSections (take i sections) t phases) a b → MarksAll (AmongMembers section phases) b c → MarksAll (InSections (take (i + 1) sections) t phases) a c
sections_more sections i section d t phases a b c within is has first then =
    sections_next sections i section d t phases a b c within is first
    (marks_as (AmongMembers section phases) (λ x. Contains section t × AmongMembers section phases x) b c (λ x h. (has, h)) (λ x h own. h.1) then)

-- ---- at a place
pub no_place : (g : GraphView) (t : Term) (phases : PhaseSet) (v : SearchView) → place_at g t ≡ None → MarksAll (AtPlaceOf g t phases) v v
no_place g t phases v none =
    marks_nothing (AtPlaceOf g t phases) v (λ x (p, asked, (place, at, members, has, stands, same)) own. absurd (some_none place (sym at ∙ none)))

-- the spoke and the place of a terminal of a star
pub spoke_is : (g : GraphView) (t : Term) (star : Star) (o : Option Spoke) → star_of g t.owner.number ≡ Some star → o ≡ find (λ (spoke : Spoke). same_term spoke.term t) star.spokes → spoke_of g t ≡ o
spoke_is g t star o at is = ap (λ (s : Option Star). and_then s (λ (star : Star). find (λ (spoke : Spoke). same_term spoke.term t) star.spokes)) at ∙ sym is

pub place_is : (g : GraphView) (t : Term) (star : Star) (o : Option Spoke) → star_of g t.owner.number ≡ Some star → o ≡ find (λ (spoke : Spoke). same_term spoke.term t) star.spokes → place_at g t ≡ and_then o (λ (spoke : Spoke). spoke.at)
place_is g t star o at is = ap (λ (s : Option Spoke). and_then s (λ (spoke : Spoke). spoke.at)) (spoke_is g t star o at is)

pub line_is : (g : GraphView) (t : Term) (star : Star) (o : Option Line) → star_of g t.owner.number ≡ Some star → o ≡ own_or_on g star (line_in star.pass) → line_at g t ≡ o
line_is g t star o at is = ap (λ (s : Option Star). and_then s (λ (star : Star). own_or_on g star (line_in star.pass))) at ∙ sym is

-- ---- along a line
pub section_marks : (line : Line) (t : Term) (phases met : PhaseSet) (a b : SearchView) → ((p : Phase) → has_phase met p ≡ (has_phase phases p && has_phase line.phases p)) → MarksAll (InSections line.sections t met) a b → MarksAll (InSectionOf line t phases) a b
section_marks line t phases met a b meets =
    marks_as (InSections line.sections t met) (InSectionOf line t phases) a b
    (λ x (section, stands, from, to, asked).
    let both = and_parts (has_phase phases x.phase) (has_phase line.phases x.phase) (sym (meets x.phase) ∙ asked) in
    (x.phase, both.0, (section, stands, from, to, both.1, refl)))
    (λ x (p, asked, (section, stands, from, to, of_line, same)) own.
    (section, stands, from, to, subst (λ (q : Phase). IsTrue (has_phase met q)) same (meets p ∙ and_from (has_phase phases p) (has_phase line.phases p) asked of_line)))

pub line_marks : (g : GraphView) (t : Term) (phases : PhaseSet) (line : Line) (a b : SearchView) → line_at g t ≡ Some line → MarksAll (InSectionOf line t phases) a b → MarksAll (AlongLineOf g t phases) a b
line_marks g t phases line a b at =
    marks_as (InSectionOf line t phases) (AlongLineOf g t phases) a b
    (λ x (p, asked, (section, stands, from, to, of_line, same)). (p, asked, (line, at, section, stands, from, to, of_line, same)))
    (λ x (p, asked, (line', at', section, stands, from, to, of_line, same)) own.
    let one : line' ≡ line = same_Some line' line (sym at' ∙ at) in
    (p, asked, (section, subst (λ (l : Line). Contains l.sections section) one stands, from, to, subst (λ (l : Line). IsTrue (has_phase l.phases p)) one of_line, same)))

pub no_line : (g : GraphView) (t : Term) (phases : PhaseSet) (v : SearchView) → line_at g t ≡ None → MarksAll (AlongLineOf g t phases) v v
no_line g t phases v none =
    marks_nothing (AlongLineOf g t phases) v (λ x (p, asked, (line, at, section, stands, from, to, of_line, same)) own. absurd (some_none line (sym at ∙ none)))

-- ---- through a star
passes_as : (star : Star) (t : Term) (except : Option Term) (phases made : PhaseSet) (a b : SearchView) → ((p : Phase) (x : Point) → IsTrue (has_phase phases p) → Passes star.pass (record { term = t; phase = p }) x → (Some x.term ≡ except → ⊥) × IsTrue (has_phase made x.phase))
    → ((x : Point) → (Some x.term ≡ except → ⊥) → IsTrue (has_phase made x.phase) → (p : Phase) × IsTrue (has_phase phases p) × Passes star.pass (record { term = t; phase = p }) x) → MarksAll (AmongSpokes star.spokes except made) a b → MarksAll (PassedFrom star t phases) a b
passes_as star t except phases made a b out into =
    marks_as (AmongSpokes star.spokes except made) (PassedFrom star t phases) a b
    (λ x (stands, stays, in_made). let from = into x stays in_made in (from.0, from.1, (stands, from.2)))
    (λ x (p, asked, (stands, passes)) own. let to = out p x asked passes in (stands, to.0, to.1))

pub same_marks : (star : Star) (t : Term) (phases : PhaseSet) (a b : SearchView) → star.pass ≡ pass.Same → MarksAll (AmongSpokes star.spokes None phases) a b → MarksAll (PassedFrom star t phases) a b
same_marks star t phases a b is =
    passes_as star t None phases phases a b
    (λ p x asked passes.
    let same : p ≡ x.phase = subst (λ (way : Pass). Passes way (record { term = t; phase = p }) x) is passes in
    ((λ e. some_none x.term e), subst (λ (q : Phase). IsTrue (has_phase phases q)) same asked))
    (λ x stays asked. (x.phase, asked, subst (λ (way : Pass). Passes way (record { term = t; phase = x.phase }) x) (sym is) refl))

pub closed_marks : (star : Star) (t : Term) (phases : PhaseSet) (is_open : Bool) (a b : SearchView) → star.pass ≡ pass.Switch is_open → is_open ≡ false → MarksAll (AmongSpokes star.spokes (Some t) phases) a b → MarksAll (PassedFrom star t phases) a b
closed_marks star t phases is_open a b is closed =
    passes_as star t (Some t) phases phases a b
    (λ p x asked passes.
    let way : (t ≡ x.term → ⊥) × IsTrue (lets_through is_open p) × (p ≡ x.phase) = subst (λ (way : Pass). Passes way (record { term = t; phase = p }) x) is passes in
    ((λ e. way.0 (sym (same_Some x.term t e))), subst (λ (q : Phase). IsTrue (has_phase phases q)) way.2 asked))
    (λ x stays asked. (x.phase, asked, subst (λ (way : Pass). Passes way (record { term = t; phase = x.phase }) x) (sym is) ((λ e. stays (ap Some (sym e))), ap not closed, refl)))

pub transformer_marks : (star : Star) (t : Term) (phases made : PhaseSet) (a b : SearchView) → star.pass ≡ pass.Transformer → ((q : Phase) → IsTrue (has_phase made q) → (p : Phase) × IsTrue (has_phase phases p) × Transforms p q) → ((p q : Phase) → IsTrue (has_phase phases p) → Transforms p q → IsTrue (has_phase made q))
    → MarksAll (AmongSpokes star.spokes (Some t) made) a b → MarksAll (PassedFrom star t phases) a b
transformer_marks star t phases made a b is sound complete =
    passes_as star t (Some t) phases made a b
    (λ p x asked passes.
    let way : (t ≡ x.term → ⊥) × Transforms p x.phase = subst (λ (way : Pass). Passes way (record { term = t; phase = p }) x) is passes in
    ((λ e. way.0 (sym (same_Some x.term t e))), complete p x.phase asked way.1))
    (λ x stays in_made.
    let from = sound x.phase in_made in
    (from.0, from.1, subst (λ (way : Pass). Passes way (record { term = t; phase = from.0 }) x) (sym is) ((λ e. stays (ap Some (sym e))), from.2)))

pub no_pass : (star : Star) (t : Term) (phases : PhaseSet) (v : SearchView) → ((a b : Point) → Passes star.pass a b → ⊥) → MarksAll (PassedFrom star t phases) v v
no_pass star t phases v none = marks_nothing (PassedFrom star t phases) v (λ x (p, asked, (stands, passes)) own. absurd (none (record { term = t; phase = p }) x passes))

-- ---- all three
pub joined_marks : (g : GraphView) (t : Term) (phases : PhaseSet) (star : Star) (a b c d : SearchView) → star_of g t.owner.number ≡ Some star → MarksAll (AtPlaceOf g t phases) a b → MarksAll (AlongLineOf g t phases) b c → MarksAll (PassedFrom star t phases) c d → MarksAll (JoinedFrom g t phases) a d
joined_marks g t phases star a b c d at place line through =
    marks_as (λ x. (AtPlaceOf g t phases x ⊎ AlongLineOf g t phases x) ⊎ PassedFrom star t phases x) (JoinedFrom g t phases) a d
    (λ x h. ⊎_elim
    (λ h. ⊎_elim (λ l. (l.0, l.1, inl l.2)) (λ r. (r.0, r.1, inr (inl r.2))) h)
    (λ r. (r.0, r.1, inr (inr (star, at, r.2.0, r.2.1))))
    h)
    (λ x (p, asked, joined) own. ⊎_elim
    (λ l. inl (inl (p, asked, l)))
    (λ h. ⊎_elim
    (λ l. inl (inr (p, asked, l)))
    (λ (star', at', stands, passes).
    let one : star' ≡ star = same_Some star' star (sym at' ∙ at) in
    inr (p, asked, (subst (λ (s : Star). HasSpoke s x.term) one stands, subst (λ (s : Star). Passes s.pass (record { term = t; phase = p }) x) one passes)))
    h)
    joined)
    (marks_more (λ x. AtPlaceOf g t phases x ⊎ AlongLineOf g t phases x) (PassedFrom star t phases) a c d
    (marks_more (AtPlaceOf g t phases) (AlongLineOf g t phases) a b c place line) through)

pub no_star : (g : GraphView) (t : Term) (phases : PhaseSet) (v : SearchView) → star_of g t.owner.number ≡ None → MarksAll (JoinedFrom g t phases) v v
no_star g t phases v none =
    marks_nothing (JoinedFrom g t phases) v (λ x (p, asked, joined) own. absurd (⊎_elim
    (λ l. some_none l.0 (sym l.1 ∙ ap (λ (s : Option Star). and_then (and_then s (λ (star : Star). find (λ (spoke : Spoke). same_term spoke.term t) star.spokes)) (λ (spoke : Spoke). spoke.at)) none))
    (λ h. ⊎_elim
    (λ l. some_none l.0 (sym l.1 ∙ ap (λ (s : Option Star). and_then s (λ (star : Star). own_or_on g star (line_in star.pass))) none))
    (λ l. some_none l.0 (sym l.1 ∙ none))
    h)
    joined))

-- the phases of a terminal that takes them from its line
pub segment_phases : (g : GraphView) (t : Term) (star : Star) (spoke : Spoke) (o : Option Line) → star_of g t.owner.number ≡ Some star → Some spoke ≡ find (λ (spoke : Spoke). same_term spoke.term t) star.spokes → spoke.phases ≡ OfSegment → o ≡ own_or_on g star (line_in star.pass) → phases_at g t ≡ line_phases o
segment_phases g t star spoke o at is takes line =
    let same : spoke.term ≡ t = term_exact spoke.term t (find_among (λ (spoke : Spoke). same_term spoke.term t) star.spokes spoke (sym is)).1 in
    ap (listed_phases g) (spoke_is g t star (Some spoke) at is)
    ∙ ap (spoke_phases g spoke.term) takes
    ∙ ap (λ (u : Term). line_phases (line_at g u)) same
    ∙ ap line_phases (line_is g t star o at line)
