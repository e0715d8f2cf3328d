-- The terminals at the spots of a segment, found among its marks or by their owners.
use Rattle.std.proofs.Common.{◌≡◌, ℕ, inl, inr, List, [], ◌∷◌, map, Bool, true, false, ◌==◌, cond, Option, Some, option_map, unwrap_or, find, refl, ap, sym, ◌∙◌}
use Rattle.std.specs.List.{filter_map}
use Rattle.std.proofs.lemmas.Bool.{eqb-true}
use Rattle.std.proofs.lemmas.Simd.{map-map}
use Rattle.std.proofs.lemmas.List.{map-id}
use Rattle.plain_laws.proofs.Filters.{filter_map_same_among, map_same_among}
use Rattle.plain_laws.proofs.Members.{Among, among_contained, among_flat_map, contains_among}
use Rattle.plain_laws.proofs.Numbers.{equal_itself}
use Rattle.cim_model.specs.Live.{terms_of}
use Rattle.cim_model.specs.Marks.{marks_on}
use Rattle.cim_model.specs.Sections.{of_side, term_at}
use Rattle.cim_words.specs.declared.identifier.Id.{Id}
use Rattle.cim_words.specs.declared.statement.Statement.{Statement}
use Rattle.graph_pages.specs.declared.star.Spoke.{Spoke}
use Rattle.link_rules.specs.Inputs.{MarkTerms, inputs, spot_term, spoke, with_terms}
use Rattle.room_words.specs.declared.overlay.Overlay.{Overlay}
use Rattle.room_words.specs.declared.term.Term.{Term}
use Rattle.segment_cuts.specs.Sections.{AreSections, HasMark, IsOn, all_spots}
use Rattle.segment_cuts.specs.declared.mark.Mark.{Mark}
use Rattle.segment_cuts.specs.declared.mark.Spot.{Spot}
use Rattle.segment_cuts.specs.declared.mark.Spot.TheVariants.{EndOne, EndTwo, Clamp, CutOne, CutTwo}

-- ---- among the marks

found_terms : List Statement → Overlay → Id → List Mark → Option MarkTerms
found_terms m o id marks = find (λ (one : MarkTerms). one.0.id.number == id.number) (map (with_terms m o) marks)

terms_step : (m : List Statement) (o : Overlay) (id : Id) (first : Mark) (rest : Option MarkTerms) (b : Bool) → (first.id.number == id.number) ≡ b → (b ≡ false → unwrap_or (option_map (λ (one : MarkTerms). one.1) rest) [] ≡ terms_of m o id.number)
    → unwrap_or (option_map (λ (one : MarkTerms). one.1) (cond b (Some (with_terms m o first)) rest)) [] ≡ terms_of m o id.number
terms_step m o id first rest true same later = ap (terms_of m o) (eqb-true first.id.number id.number same)
terms_step m o id first rest false other later = later refl

terms_found : (m : List Statement) (o : Overlay) (id : Id) (marks : List Mark) (one : Mark) → Among marks one → one.id.number ≡ id.number
    → unwrap_or (option_map (λ (one : MarkTerms). one.1) (found_terms m o id marks)) [] ≡ terms_of m o id.number
unfolding found_terms
terms_found m o id [] one there is = absurd there
terms_found m o id (first ∷ marks) one (inl here) is =
    let same : (first.id.number == id.number) ≡ true = ap (λ (n : ℕ). n == id.number) (ap (λ (mark : Mark). mark.id.number) here ∙ is) ∙ equal_itself id.number in
    terms_step m o id first _ (first.id.number == id.number) refl (λ other. absurd (let both : true ≡ false = sym same ∙ other in cc))
terms_found m o id (first ∷ marks) one (inr later) is =
    terms_step m o id first _ (first.id.number == id.number) refl (λ other. terms_found m o id marks one later is)

mark_found : (m : List Statement) (o : Overlay) (id : Id) (divides : Bool) (marks : List Mark) → HasMark marks id divides
    → unwrap_or (option_map (λ (one : MarkTerms). one.1) (found_terms m o id marks)) [] ≡ terms_of m o id.number
mark_found m o id divides marks (one, there, is, divided) = terms_found m o id marks one (among_contained marks one there) (ap (λ (id : Id). id.number) is)

-- the spokes of terminals are at them
pub spokes_at_terms : (m : List Statement) (o : Overlay) (terms : List Term) → map (λ (s : Spoke). s.term) (map (spoke m o) terms) ≡ terms
spokes_at_terms m o terms = map-map (λ (s : Spoke). s.term) (spoke m o) terms ∙ map-id terms

-- ---- at a spot of the segment

spot_same : (m : List Statement) (o : Overlay) (x : ℕ) (s : Spot) → IsOn (marks_on m o x) s → spot_term (inputs m o x) s ≡ term_at m o x s
unfolding found_terms
spot_same m o x EndOne on = ap (of_side EndOne) (spokes_at_terms m o (terms_of m o x))
spot_same m o x EndTwo on = ap (of_side EndTwo) (spokes_at_terms m o (terms_of m o x))
spot_same m o x (Clamp id) on = ap (of_side (Clamp id)) (mark_found m o id false (marks_on m o x) on)
spot_same m o x (CutOne id) on = ap (of_side (CutOne id)) (mark_found m o id true (marks_on m o x) on)
spot_same m o x (CutTwo id) on = ap (of_side (CutTwo id)) (mark_found m o id true (marks_on m o x) on)

-- ---- in lists of spots

pub lists_same : (m : List Statement) (o : Overlay) (x : ℕ) (sections : List (List Spot)) → AreSections (marks_on m o x) sections
    → map (filter_map (spot_term (inputs m o x))) sections ≡ map (filter_map (term_at m o x)) sections
lists_same m o x sections are =
    map_same_among (filter_map (spot_term (inputs m o x))) (filter_map (term_at m o x)) sections (λ spots there.
    filter_map_same_among (spot_term (inputs m o x)) (term_at m o x) spots (λ s has.
    spot_same m o x s ((are.complete s).0 (contains_among (all_spots sections) s (among_flat_map (λ (spots : List Spot). spots) sections spots s there has)))))

pub marks_of_mark_terms : (m : List Statement) (o : Overlay) (marks : List Mark) → map (λ (one : MarkTerms). one.0) (map (with_terms m o) marks) ≡ marks
marks_of_mark_terms m o marks = map-map (λ (one : MarkTerms). one.0) (with_terms m o) marks ∙ map-id marks
