-- What the star of equipment or of an item is made of, of this project: it is the same wherever these are the same.
use Rattle.std.specs.Prelude.{ℕ, ◌≡◌, List, [], map, Bool, ◌==◌, Option, None, Some, find, option_map, unwrap_or}
use Rattle.std.specs.List.{filter_map}
use Rattle.cim_model.specs.Live.{Conduction, PassesNothing, PassesAlong, PassesSwitched, PassesAll, PassesTransformed, conduction, is_open, stands_on, stated_place, terms_of}
use Rattle.cim_model.specs.Marks.{marks_on}
use Rattle.cim_model.specs.Network.{class_in, phases_of, segment_phases}
use Rattle.cim_model.specs.Phases.{no_phases}
use Rattle.cim_model.specs.Sections.{of_side}
use Rattle.cim_model.specs.Values.{as_id}
use Rattle.cim_words.specs.declared.class.Class.{Class}
use Rattle.cim_words.specs.declared.class.Class.TheVariants as class
use Rattle.cim_words.specs.declared.identifier.Id.{Id}
use Rattle.cim_words.specs.declared.phases.PhaseSet.{PhaseSet}
use Rattle.cim_words.specs.declared.statement.Statement.{Statement}
use Rattle.graph_pages.specs.declared.star.Pass.{Pass}
use Rattle.graph_pages.specs.declared.star.Pass.TheVariants as pass
use Rattle.graph_pages.specs.declared.star.Spoke.{Spoke}
use Rattle.graph_pages.specs.declared.star.SpokePhases.{SpokePhases}
use Rattle.graph_pages.specs.declared.star.SpokePhases.TheVariants as phases
use Rattle.graph_pages.specs.declared.star.Star.{Star}
use Rattle.room_words.specs.Items.{item_class, item_phases}
use Rattle.room_words.specs.Overlay.{item_or}
use Rattle.room_words.specs.declared.items.TempItem.{TempItem}
use Rattle.room_words.specs.declared.overlay.Overlay.{Overlay}
use Rattle.room_words.specs.declared.term.Term.{Term}
use Rattle.room_words.specs.declared.term.TermKey.{TermKey}
use Rattle.room_words.specs.declared.term.TermKey.TheVariants as key
use Rattle.segment_cuts.specs.Sections.{AreSections}
use Rattle.segment_cuts.specs.declared.mark.Mark.{Mark}
use Rattle.segment_cuts.specs.declared.mark.Spot.{Spot}
use Rattle.segment_cuts.specs.declared.mark.Spot.TheVariants.{EndOne, EndTwo, Clamp, CutOne, CutTwo}

-- a mark of a segment with its terminals by side
abbrev pub MarkTerms : Type 0
MarkTerms = Mark × List Term

-- its class, the segment on which it stands, its terminals with their places and phases, how it conducts, its position, the phases of
-- a segment, and a segment's marks with their terminals
pub record Inputs : Type 0 where
  pub class : Class
  pub on : Option Id
  pub spokes : List Spoke
  pub conducts : Conduction
  pub is_open : Bool
  pub phases : PhaseSet
  pub marks : List MarkTerms

-- the phases of a terminal as a star lists them: those of a model's terminal and those that an item states are its own, and a cut's or
-- a clamp's are those of its segment
abbrev pub item_listed : Option PhaseSet → SpokePhases
item_listed None = phases.OfSegment
item_listed (Some own) = phases.Own own

abbrev pub side_listed : TempItem → SpokePhases
side_listed one = item_listed (item_phases one)

abbrev pub listed_phases : List Statement → Overlay → Term → TermKey → SpokePhases
listed_phases m o t (key.Real u) = phases.Own (phases_of m u.number)
listed_phases m o t (key.Side number) = item_or o t.owner.number side_listed (phases.Own no_phases)

abbrev pub spoke : List Statement → Overlay → Term → Spoke
spoke m o t = record { term = t; at = stated_place m o t t.key; phases = listed_phases m o t t.key }

-- a mark with its terminals
abbrev pub with_terms : List Statement → Overlay → Mark → MarkTerms
with_terms m o mark = (mark, terms_of m o mark.id.number)

abbrev pub inputs : List Statement → Overlay → ℕ → Inputs
inputs m o x = record {
  class = item_or o x item_class (unwrap_or (class_in m x) class.Other);
  on = option_map as_id (stands_on m o x);
  spokes = map (spoke m o) (terms_of m o x);
  conducts = conduction m o x;
  is_open = is_open m o x;
  phases = segment_phases m x;
  marks = map (with_terms m o) (marks_on m o x);
}

-- the terminal at a spot of a segment: one of the segment's own, or one of the mark's
abbrev pub own_terms : Inputs → List Term
own_terms i = map (λ (s : Spoke). s.term) i.spokes

abbrev pub mark_terms : Inputs → Id → List Term
mark_terms i id = unwrap_or (option_map (λ (one : MarkTerms). one.1) (find (λ (one : MarkTerms). one.0.id.number == id.number) i.marks)) []

abbrev pub spot_terms : Inputs → Spot → List Term
spot_terms i EndOne = own_terms i
spot_terms i EndTwo = own_terms i
spot_terms i (Clamp id) = mark_terms i id
spot_terms i (CutOne id) = mark_terms i id
spot_terms i (CutTwo id) = mark_terms i id

abbrev pub spot_term : Inputs → Spot → Option Term
spot_term i s = of_side s (spot_terms i s)

-- the line of a segment lists the terminals on it, section by section
abbrev pub marks_in : Inputs → List Mark
marks_in i = map (λ (one : MarkTerms). one.0) i.marks

abbrev pub line : Inputs → List (List Spot) → Pass
line i sections = pass.Line i.phases (map (filter_map (spot_term i)) sections)

-- how current passes between the terminals of a star
abbrev pub IsPassBy : Conduction → Inputs → Pass → Type 0
IsPassBy PassesNothing i found = found ≡ pass.Nothing
IsPassBy PassesAlong i found = (sections : List (List Spot)) × AreSections (marks_in i) sections × (found ≡ line i sections)
IsPassBy PassesSwitched i found = found ≡ pass.Switch i.is_open
IsPassBy PassesAll i found = found ≡ pass.Same
IsPassBy PassesTransformed i found = found ≡ pass.Transformer

abbrev pub IsPass : Inputs → Pass → Type 0
IsPass i found = IsPassBy i.conducts i found

-- the star of an identifier with these inputs
pub record IsStar (x : ℕ) (i : Inputs) (star : Star) : Type 0 where
  pub id : star.id ≡ as_id x
  pub class : star.class ≡ i.class
  pub on : star.on ≡ i.on
  pub spokes : star.spokes ≡ i.spokes
  pub pass : IsPass i star.pass
