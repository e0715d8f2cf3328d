-- Sections at their levels.
use Rattle.std.proofs.Common.{◌≡◌, ℕ, zero, suc, ◌<◌, ◌⊎◌, inl, inr, ◌↔◌, List, [], ◌∷◌, length, get_or, Contains, sym, ◌∙◌, subst, arith}
use Rattle.std.specs.List.{AllPairs}
use Rattle.std.proofs.lemmas.List.{length-map}
use Rattle.std.proofs.lemmas.List.Elements.{All-contains, Contains-get_or, Contains-append_left, Contains-append_right, Contains-append_cases}
use Rattle.segment_cuts.specs.declared.mark.Mark.{Mark}
use Rattle.segment_cuts.specs.declared.mark.Spot.{Spot}
use Rattle.segment_cuts.specs.declared.mark.Spot.TheVariants.{EndOne}
use Rattle.segment_cuts.specs.Sections.{AreMarks, AreSections, IsOn, Precedes, ShareSection, StandTogether, all_spots, section_index}
use Rattle.segment_cuts.specs.Line.{IsLine, AreLevels, IsCutUp, spots}
use Rattle.segment_cuts.specs.declared.line.Placed.{Placed}
use Rattle.segment_cuts.proofs.Levels.{shared_level, level_shared}
use Rattle.segment_cuts.proofs.Rising.{rising}

-- a spot of all sections is a spot of one, and the other way round
pub in_some_section : (sections : List (List Spot)) (s : Spot) → Contains (all_spots sections) s → (i : ℕ) × (i < length sections) × Contains (get_or sections i []) s
in_some_section [] s here = absurd (let below : here.0 < 0 = here.1 in omega arith)
in_some_section (p ∷ ps) s here = cases (in_some_section ps s) (Contains-append_cases p (all_spots ps) s here)
  where
    cases : (Contains (all_spots ps) s → (i : ℕ) × (i < length ps) × Contains (get_or ps i []) s) → Contains p s ⊎ Contains (all_spots ps) s → (i : ℕ) × (i < length (p ∷ ps)) × Contains (get_or (p ∷ ps) i []) s
    cases later (inl first) = (0, omega arith, first)
    cases later (inr rest) = let there = later rest in let below : there.0 < length ps = there.1 in (suc there.0, omega arith, there.2)

pub in_all : (sections : List (List Spot)) (i : ℕ) (d : List Spot) (s : Spot) → i < length sections → Contains (get_or sections i d) s → Contains (all_spots sections) s
in_all [] i d s within here = absurd (omega arith)
in_all (p ∷ ps) zero d s within here = Contains-append_left p (all_spots ps) s here
in_all (p ∷ ps) (suc i) d s within here = Contains-append_right p (all_spots ps) s (in_all ps i d s (omega arith) here)

level_at : (level : Spot → ℕ) (sections : List (List Spot)) → AreLevels level sections → (i : ℕ) (d : List Spot) (s : Spot) → i < length sections → Contains (get_or sections i d) s → level s ≡ i
level_at level sections levels i d s within here = All-contains (λ (x : Spot). level x ≡ i) (get_or sections i d) s (levels i d within) here

pub stands_at_level : (level : Spot → ℕ) (sections : List (List Spot)) → AreLevels level sections → (s : Spot) → Contains (all_spots sections) s → (level s < length sections) × Contains (get_or sections (level s) []) s
stands_at_level level sections levels s here =
    let place = in_some_section sections s here in
    let same : place.0 ≡ level s = sym (level_at level sections levels place.0 [] s place.1 place.2) in
    (subst (λ (i : ℕ). i < length sections) same place.1, subst (λ (i : ℕ). Contains (get_or sections i []) s) same place.2)

level_of_section : (level : Spot → ℕ) (sections : List (List Spot)) → AreLevels level sections → (section : List Spot) (here : Contains sections section) (s : Spot) → Contains section s → level s ≡ here.0
level_of_section level sections levels section here s inside = level_at level sections levels here.0 section s here.1 (subst (λ (x : List Spot). Contains x s) (sym here.2) inside)

-- what is cut up from a line are the sections
pub cut_line : (marks : List Mark) → AreMarks marks → (line : List Spot) → IsLine marks line → (sections : List (List Spot)) → IsCutUp line sections → AreSections marks sections
cut_line marks are line is sections cut = record {
  complete = λ s. subst (λ (x : List Spot). Contains x s ↔ IsOn marks s) (sym cut.whole) (is.complete s);
  ordered = subst (AllPairs (Precedes marks)) (sym cut.whole) is.ordered;
  filled = cut.filled (section_index marks) (rising marks are line is);
  joined = λ s t first second. ((λ together. shares s t together), (λ share. stands s t first second (shared_level marks are s t first second share)));
}
  where
    levels : AreLevels (section_index marks) sections
    levels = cut.levels (section_index marks) (rising marks are line is)

    shares : (s t : Spot) → StandTogether sections s t → ShareSection marks s t
    shares s t together = level_shared marks s t (level_of_section (section_index marks) sections levels together.0 together.1 s together.2 ∙ sym (level_of_section (section_index marks) sections levels together.0 together.1 t together.3))

    present : (s : Spot) → IsOn marks s → Contains (all_spots sections) s
    present s on = subst (λ (x : List Spot). Contains x s) (sym cut.whole) ((is.complete s).1 on)

    stands : (s t : Spot) → IsOn marks s → IsOn marks t → section_index marks s ≡ section_index marks t → StandTogether sections s t
    stands s t first second same =
        let here = stands_at_level (section_index marks) sections levels s (present s first) in
        let there = stands_at_level (section_index marks) sections levels t (present t second) in
        (get_or sections (section_index marks s) [], Contains-get_or sections (section_index marks s) [] here.0, here.1, subst (λ (i : ℕ). Contains (get_or sections i []) t) (sym same) there.1)

-- a segment has spots
pub some_spots : (marks : List Mark) (line : List Placed) → IsLine marks (spots line) → 0 < length line
some_spots marks line is = let here : (k : ℕ) × (k < length (spots line)) × (get_or (spots line) k EndOne ≡ EndOne) = (is.complete EndOne).1 tt in let below : here.0 < length (spots line) = here.1 in omega (arith, length-map line (λ (p : Placed). p.spot))
