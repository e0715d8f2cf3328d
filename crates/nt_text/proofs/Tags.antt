-- Language tags: letters, and then subtags with a hyphen before each.
use Rattle.std.proofs.Common.{◌≡◌, ℕ, ◌<◌, ◌≤◌, List, [], ◌∷◌, ◌++◌, Bool, true, false, not, ◌&&◌, ◌||◌, ◌==◌, nat_le, IsTrue, length, refl, sym, ap, ◌∙◌, arith, append_assoc, length-append, codes, Option, Some, None, IfSome, Bor}
use Rattle.std.proofs.lemmas.Bool.Decides.{nat_tests}
use Rattle.std.specs.List.{flat_map, AllPass, AllByRecursion}
use Rattle.nt_text.specs.Ends.{HasSubtags, HasTag, stops_tag}
use Rattle.nt_text.specs.Grammar.{is_blank, is_letter, is_letter_or_digit, IsSubtag, IsEnd}
use Rattle.nt_text.specs.Run.{behind_run}
use Rattle.nt_text.proofs.Runs.{behind_run-append, run_of, head_passes}

-- what one or more bytes stand before
pub some_found : (test : ℕ → Bool) (bytes rest : List ℕ) → rest ≡ behind_run test bytes → length rest < length bytes
    → (run : List ℕ) × (0 < length run) × AllPass test run × (bytes ≡ run ++ rest)
some_found test bytes rest is shorter =
    let run = run_of test bytes in
    let layout : bytes ≡ run.run ++ rest = run.layout ∙ ap (λ (l : List ℕ). run.run ++ l) (sym is) in
    (run.run, omega (arith, ap length layout, length-append run.run rest), run.passes, layout)

none_run : (run rest bytes : List ℕ) → bytes ≡ run ++ rest → length bytes ≤ length rest → rest ≡ bytes
none_run [] rest bytes same long = sym same
none_run (byte ∷ run) rest bytes same long = absurd (omega (arith, ap length same, length-append run rest))

pub none_found : (test : ℕ → Bool) (bytes rest : List ℕ) → rest ≡ behind_run test bytes → length bytes ≤ length rest → behind_run test bytes ≡ bytes
none_found test bytes rest is long =
    let run = run_of test bytes in
    let short : length bytes ≤ length (behind_run test bytes) = omega (arith, ap length is) in
    none_run run.run (behind_run test bytes) bytes run.layout short

not_both : (byte : ℕ) → not (is_letter_or_digit byte || byte == 0x2D) ≡ true → is_letter_or_digit byte ≡ false
not_both byte stops = at (is_letter_or_digit byte) (byte == 0x2D) stops
  where
    at : (a b : Bool) → not (a || b) ≡ true → a ≡ false
    at true b h = absurd cc
    at false b h = refl

letter_in : (byte : ℕ) → is_letter_or_digit byte ≡ false → is_letter byte ≡ false
letter_in byte none = at (is_letter byte) (nat_le 0x30 byte && nat_le byte 0x39) none
  where
    at : (a b : Bool) → (a || b) ≡ false → a ≡ false
    at true b h = absurd cc
    at false b h = refl

-- what a tag stops at is no run of its bytes
stops_run : (rest : List ℕ) → IsTrue (stops_tag rest) → behind_run is_letter_or_digit rest ≡ rest
stops_run [] stops = refl
stops_run (byte ∷ rest) stops = rw (not_both byte stops) refl

stops_letters : (rest : List ℕ) → IsTrue (stops_tag rest) → behind_run is_letter rest ≡ rest
stops_letters [] stops = refl
stops_letters (byte ∷ rest) stops = rw (letter_in byte (not_both byte stops)) refl

abbrev hyphened : List ℕ → List ℕ
hyphened subtag = codes "-" ++ subtag

-- nor are subtags
subtags_run : (subtags : List (List ℕ)) (rest : List ℕ) → IsTrue (stops_tag rest)
    → behind_run is_letter_or_digit (flat_map hyphened subtags ++ rest) ≡ flat_map hyphened subtags ++ rest
subtags_run [] rest stops = stops_run rest stops
subtags_run (subtag ∷ subtags) rest stops = refl

subtags_letters : (subtags : List (List ℕ)) (rest : List ℕ) → IsTrue (stops_tag rest)
    → behind_run is_letter (flat_map hyphened subtags ++ rest) ≡ flat_map hyphened subtags ++ rest
subtags_letters [] rest stops = stops_letters rest stops
subtags_letters (subtag ∷ subtags) rest stops = refl

-- subtags are passed one by one
pub record IsPast (bytes rest : List ℕ) : Type 0 where
  pub found : (end : List ℕ) → HasSubtags rest end → HasSubtags bytes end
  pub only : (end : List ℕ) → IsTrue (stops_tag end) → HasSubtags bytes end → HasSubtags rest end

-- the subtag after a hyphen
next_subtags : (rest subtag_on end : List ℕ) (subtags : List (List ℕ)) → rest ≡ codes "-" ++ subtag_on → AllByRecursion IsSubtag subtags
    → rest ≡ flat_map hyphened subtags ++ end → IsTrue (stops_tag end)
    → (subtag : List ℕ) × (more : List (List ℕ)) × IsSubtag subtag × AllByRecursion IsSubtag more × (subtag_on ≡ subtag ++ (flat_map hyphened more ++ end))
next_subtags rest subtag_on end [] begins each layout stops = absurd (no_hyphen end (sym layout ∙ begins) stops)
  where
    no_hyphen : (end : List ℕ) → end ≡ 0x2D ∷ subtag_on → IsTrue (stops_tag end) → ⊥
    no_hyphen end is stops = let no : false ≡ true = sym (ap stops_tag is) ∙ stops in cc
next_subtags rest subtag_on end (subtag ∷ more) begins each layout stops =
    let same : 0x2D ∷ subtag_on ≡ 0x2D ∷ (subtag ++ flat_map hyphened more ++ end) = sym begins ∙ layout in
    let tails : subtag_on ≡ subtag ++ flat_map hyphened more ++ end = cc in
    (subtag, more, each.0, each.1, tails ∙ append_assoc subtag (flat_map hyphened more) end)

pub subtags_go_on : (bytes rest subtag_on after : List ℕ) → IsPast bytes rest → rest ≡ codes "-" ++ subtag_on
    → (run : List ℕ) × (0 < length run) × AllPass is_letter_or_digit run × (subtag_on ≡ run ++ after) → after ≡ behind_run is_letter_or_digit subtag_on
    → IsPast bytes after
subtags_go_on bytes rest subtag_on after so_far begins (run, some, passes, layout) longest = record { found = found; only = only }
  where
    found : (end : List ℕ) → HasSubtags after end → HasSubtags bytes end
    found end has = so_far.found end (record {
      subtags = run ∷ has.subtags;
      each = ((some, passes), has.each);
      layout = begins ∙ ap (λ (l : List ℕ). 0x2D ∷ l) (layout ∙ ap (λ (l : List ℕ). run ++ l) has.layout ∙ sym (append_assoc run (flat_map hyphened has.subtags) end));
    })

    only : (end : List ℕ) → IsTrue (stops_tag end) → HasSubtags bytes end → HasSubtags after end
    only end stops has =
        let left = so_far.only end stops has in
        let (subtag, more, is, each, tails) = next_subtags rest subtag_on end left.subtags begins left.each left.layout stops in
        record {
          subtags = more;
          each = each;
          layout = longest ∙ ap (behind_run is_letter_or_digit) tails ∙ behind_run-append is_letter_or_digit subtag (flat_map hyphened more ++ end) is.1 ∙ subtags_run more end stops;
        }

-- after a hyphen there is a subtag
pub no_subtag : (bytes rest subtag_on end : List ℕ) → IsPast bytes rest → rest ≡ codes "-" ++ subtag_on → behind_run is_letter_or_digit subtag_on ≡ subtag_on
    → IsTrue (stops_tag end) → HasSubtags bytes end → ⊥
no_subtag bytes rest subtag_on end so_far begins none stops has =
    let left = so_far.only end stops has in
    let (subtag, more, is, each, tails) = next_subtags rest subtag_on end left.subtags begins left.each left.layout stops in
    let behind = sym none ∙ ap (behind_run is_letter_or_digit) tails ∙ behind_run-append is_letter_or_digit subtag (flat_map hyphened more ++ end) is.1 ∙ subtags_run more end stops in
    let some = is.0 in
    omega (arith, ap length (sym tails ∙ behind), length-append subtag (flat_map hyphened more ++ end))

-- where no hyphen stands the subtags end
pub subtags_end : (rest end : List ℕ) → ((on : List ℕ) → rest ≡ codes "-" ++ on → ⊥) → HasSubtags rest end → rest ≡ end
subtags_end rest end none has = at has.subtags has.layout
  where
    at : (subtags : List (List ℕ)) → rest ≡ flat_map hyphened subtags ++ end → rest ≡ end
    at [] layout = layout
    at (subtag ∷ subtags) layout = absurd (none (subtag ++ flat_map hyphened subtags ++ end) layout)

-- a tag is letters, and then subtags
pub tag_from : (bytes rest end : List ℕ) → (run : List ℕ) × (0 < length run) × AllPass is_letter run × (bytes ≡ run ++ rest) → HasSubtags rest end → HasTag bytes end
tag_from bytes rest end (run, some, passes, layout) has = record {
  tag = run ++ flat_map hyphened has.subtags;
  language = record { letters = run; subtags = has.subtags; some = some; lettered = passes; each = has.each; layout = refl };
  layout = layout ∙ ap (λ (l : List ℕ). run ++ l) has.layout ∙ sym (append_assoc run (flat_map hyphened has.subtags) end);
}

tag_layout : (bytes end : List ℕ) (has : HasTag bytes end) → bytes ≡ has.language.letters ++ (flat_map hyphened has.language.subtags ++ end)
tag_layout bytes end has =
    has.layout ∙ ap (λ (l : List ℕ). l ++ end) has.language.layout ∙ append_assoc has.language.letters (flat_map hyphened has.language.subtags) end

tag_letters : (bytes end : List ℕ) (has : HasTag bytes end) → IsTrue (stops_tag end) → behind_run is_letter bytes ≡ flat_map hyphened has.language.subtags ++ end
tag_letters bytes end has stops =
    ap (behind_run is_letter) (tag_layout bytes end has)
    ∙ behind_run-append is_letter has.language.letters (flat_map hyphened has.language.subtags ++ end) has.language.lettered
    ∙ subtags_letters has.language.subtags end stops

pub tag_subtags : (bytes rest end : List ℕ) → rest ≡ behind_run is_letter bytes → IsTrue (stops_tag end) → HasTag bytes end → HasSubtags rest end
tag_subtags bytes rest end longest stops has = record {
  subtags = has.language.subtags;
  each = has.language.each;
  layout = longest ∙ tag_letters bytes end has stops;
}

pub no_tag : (bytes end : List ℕ) → behind_run is_letter bytes ≡ bytes → IsTrue (stops_tag end) → HasTag bytes end → ⊥
no_tag bytes end none stops has =
    let some = has.language.some in
    let on = flat_map hyphened has.language.subtags ++ end in
    omega (arith, ap length (sym (tag_layout bytes end has) ∙ sym none ∙ tag_letters bytes end has stops), length-append has.language.letters on)

-- a tag stops at the end of a triple
blank_stops : (byte : ℕ) → is_blank byte ≡ true → not (is_letter_or_digit byte || byte == 0x2D) ≡ true
blank_stops byte blank = grind (arith, nat_tests)

pub end_stops : (bytes : List ℕ) → IsEnd bytes → IsTrue (stops_tag bytes)
end_stops bytes end = ap stops_tag end.layout ∙ at end.gap end.blank
  where
    at : (gap : List ℕ) → AllPass is_blank gap → stops_tag (gap ++ (codes "." ++ end.after)) ≡ true
    at [] blank = refl
    at (byte ∷ gap) blank = blank_stops byte (head_passes is_blank byte gap blank)

pub tag_found : (o : Option (Bor (List ℕ))) (bytes rest : List ℕ) → (run : List ℕ) × (0 < length run) × AllPass is_letter run × (bytes ≡ run ++ rest)
    → IfSome o (λ x. HasSubtags rest x.now) → IfSome o (λ x. HasTag bytes x.now)
tag_found None bytes rest letters has = tt
tag_found (Some x) bytes rest letters has = tag_from bytes rest x.now letters has
