-- When the star of an identifier is the same under two overlays: all that it is made of is.
use Rattle.std.proofs.Common.{◌≡◌, ℕ, List, ◌++◌, map, Bool, Option, Some, None, Contains, option_map, unwrap_or, is_some, ◌||◌, refl, ap, ap₂, sym, ◌∙◌, subst}
use Rattle.cim_words.specs.PhaseNames.{and_then}
use Rattle.cim_words.specs.declared.class.Class.TheVariants as class
use Rattle.cim_words.specs.declared.statement.Statement.{Statement}
use Rattle.cim_model.specs.Live.{class_conduction, is_live, is_open, item_conduction, item_segment_number, real, stated_place, terms_of}
use Rattle.cim_model.specs.Marks.{item_marks, marks_of, marks_on}
use Rattle.cim_model.specs.Network.{class_in, is_equipment, open_of, segment_of, segment_phases, terminals_by_side}
use Rattle.cim_model.specs.Phases.{no_phases}
use Rattle.cim_model.specs.Values.{as_id}
use Rattle.graph_pages.specs.declared.star.SpokePhases.TheVariants as phases
use Rattle.graph_pages.specs.declared.star.Star.{Star}
use Rattle.link_rules.specs.Inputs.{Inputs, IsStar, inputs, listed_phases, side_listed, spoke, with_terms}
use Rattle.link_rules.specs.Map.{IsStarAt}
use Rattle.plain_laws.proofs.Filters.{map_same_among}
use Rattle.plain_laws.proofs.Members.{Among, contains_among}
use Rattle.room_words.specs.Items.{item_class, item_open, item_place, item_terms}
use Rattle.room_words.specs.Overlay.{item_of, item_or, position_of}
use Rattle.room_words.specs.declared.items.TempItem.{TempItem}
use Rattle.room_words.specs.declared.overlay.Overlay.{Overlay}
use Rattle.room_words.specs.declared.term.Term.{Term}
use Rattle.room_words.specs.declared.term.TermKey.{TermKey}
use Rattle.room_words.specs.declared.term.TermKey.TheVariants as key
use Rattle.segment_cuts.specs.declared.mark.Mark.{Mark}

-- two overlays have the same item under an identifier, the same position in force, the same marks on it, and these the same terminals
pub record AgreeOn (m : List Statement) (o p : Overlay) (x : ℕ) : Type 0 where
  pub item : item_of p x ≡ item_of o x
  pub position : position_of p x ≡ position_of o x
  pub marks : item_marks p x ≡ item_marks o x
  pub terms : (mark : Mark) → Among (marks_on m o x) mark → terms_of m p mark.id.number ≡ terms_of m o mark.id.number

-- so the identifier is live under both or neither, and its star is made of the same
pub record HasSameStar (m : List Statement) (o p : Overlay) (x : ℕ) : Type 0 where
  pub live : is_live m p x ≡ is_live m o x
  pub made_of : inputs m p x ≡ inputs m o x

-- equipment and items list terminals of their own alone
abbrev pub ListOwn : List Statement → Type 0
ListOwn m = (o : Overlay) (x : ℕ) (t : Term) → Contains (terms_of m o x) t → t.owner.number ≡ x

-- ---- one part after another

-- what is said of the same item is the same
pub says_same : {X : Type 0} (o p : Overlay) (x : ℕ) (says : TempItem → X) (other : X) → item_of p x ≡ item_of o x → item_or p x says other ≡ item_or o x says other
says_same o p x says other same = ap (λ (found : Option TempItem). unwrap_or (option_map says found) other) same

pub same_terms : (m : List Statement) (o p : Overlay) (x : ℕ) → item_of p x ≡ item_of o x → terms_of m p x ≡ terms_of m o x
same_terms m o p x same = says_same o p x item_terms (map (real x) (terminals_by_side m x)) same

same_place : (m : List Statement) (o p : Overlay) (t : Term) (k : TermKey) → item_of p t.owner.number ≡ item_of o t.owner.number → stated_place m p t k ≡ stated_place m o t k
same_place m o p t (key.Real u) same = refl
same_place m o p t (key.Side number) same = ap (λ (found : Option TempItem). and_then found (λ (one : TempItem). item_place one t)) same

same_phases : (m : List Statement) (o p : Overlay) (t : Term) (k : TermKey) → item_of p t.owner.number ≡ item_of o t.owner.number → listed_phases m p t k ≡ listed_phases m o t k
same_phases m o p t (key.Real u) same = refl
same_phases m o p t (key.Side number) same = says_same o p t.owner.number side_listed (phases.Own no_phases) same

same_spoke : (m : List Statement) (o p : Overlay) (t : Term) → item_of p t.owner.number ≡ item_of o t.owner.number → spoke m p t ≡ spoke m o t
same_spoke m o p t same i = record { term = t; at = same_place m o p t t.key same i; phases = same_phases m o p t t.key same i }

same_spokes : (m : List Statement) (o p : Overlay) (x : ℕ) → ListOwn m → item_of p x ≡ item_of o x → map (spoke m p) (terms_of m p x) ≡ map (spoke m o) (terms_of m o x)
same_spokes m o p x own same =
    ap (map (spoke m p)) (same_terms m o p x same)
    ∙ map_same_among (spoke m p) (spoke m o) (terms_of m o x) (λ t there.
    same_spoke m o p t (subst (λ (y : ℕ). item_of p y ≡ item_of o y) (sym (own o x t (contains_among (terms_of m o x) t there))) same))

same_open : (m : List Statement) (o p : Overlay) (x : ℕ) → item_of p x ≡ item_of o x → position_of p x ≡ position_of o x → is_open m p x ≡ is_open m o x
same_open m o p x item position =
    ap₂ (λ (found : Option TempItem) (held : Option Bool). unwrap_or (option_map item_open found) (unwrap_or held (open_of m x))) item position

same_marks : (m : List Statement) (o p : Overlay) (x : ℕ) → AgreeOn m o p x → map (with_terms m p) (marks_on m p x) ≡ map (with_terms m o) (marks_on m o x)
same_marks m o p x agree =
    ap (λ (marks : List Mark). map (with_terms m p) (marks_of m x ++ marks)) agree.marks
    ∙ map_same_among (with_terms m p) (with_terms m o) (marks_on m o x) (λ mark there. ap (λ (terms : List Term). (mark, terms)) (agree.terms mark there))

-- ---- the whole

same_inputs : (m : List Statement) (o p : Overlay) (x : ℕ) → ListOwn m → AgreeOn m o p x → inputs m p x ≡ inputs m o x
same_inputs m o p x own agree i = record {
  class = says_same o p x item_class (unwrap_or (class_in m x) class.Other) agree.item i;
  on = ap (option_map as_id) (says_same o p x item_segment_number (segment_of m x) agree.item) i;
  spokes = same_spokes m o p x own agree.item i;
  conducts = says_same o p x item_conduction (class_conduction m x) agree.item i;
  is_open = same_open m o p x agree.item agree.position i;
  phases = segment_phases m x;
  marks = same_marks m o p x agree i;
}

pub same_star : (m : List Statement) (o p : Overlay) (x : ℕ) → ListOwn m → AgreeOn m o p x → HasSameStar m o p x
same_star m o p x own agree = record {
  live = ap (λ (found : Option TempItem). is_some found || is_equipment m x) agree.item;
  made_of = same_inputs m o p x own agree;
}

pub turned_round : (m : List Statement) (o p : Overlay) (x : ℕ) → HasSameStar m o p x → HasSameStar m p o x
turned_round m o p x same = record { live = sym same.live; made_of = sym same.made_of }

-- its star under one overlay is its star under the other
pub star_stays : (m : List Statement) (o p : Overlay) (x : ℕ) → HasSameStar m o p x → (star : Option Star) → IsStarAt m o x star → IsStarAt m p x star
star_stays m o p x same None none = same.live ∙ none
star_stays m o p x same (Some star) is = (same.live ∙ is.0, subst (λ (made_of : Inputs). IsStar x made_of star) (sym same.made_of) is.1)
