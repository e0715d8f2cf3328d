use Rattle.std.proofs.Common.{◌≡◌, ◌++◌, List, ℕ, true, false, sym, ap, ◌∙◌, subst}
use Rattle.std.specs.Char.{encode_utf8}
use Rattle.std.specs.String.{string_bytes}
use Rattle.cim_words.specs.Written.{backslash}
use Rattle.nt_text.specs.Parts.{Spells}
use Rattle.nt_text.proofs.SpelledTexts.{Spells-raw}
use Rattle.nt_text.proofs.SpelledReads.{IsReadTo, piece_of, reading_goes_on, last_piece, not_cut, shorter_behind}
use Rattle.nt_text.proofs.characters.text_of.Goals as goal

pub returns-in_default-raw_text-clause-only : goal.returns-in_default-raw_text-clause-only
returns-in_default-raw_text-clause-only c text spells =
    let left = c.loop-front.invariant.only text spells in
    let piece = piece_of c.args.coding c.loop-front.rest.now c.in-Some.front.now c.in-Some.behind.now left.0 c.in-Some.ensures.found c.in-Some.ensures.first left.2 in
    absurd (let none : false ≡ true = rw c.in_default-raw_text.is at (c.raw_text.ensures.only piece.utf8 piece.all_raw) in cc)

pub returns-in_default-escaped-clause-only : goal.returns-in_default-escaped-clause-only
returns-in_default-escaped-clause-only c text spells =
    let left = c.loop-front.invariant.only text spells in
    let piece = piece_of c.args.coding c.loop-front.rest.now c.in-Some.front.now c.in-Some.behind.now left.0 c.in-Some.ensures.found c.in-Some.ensures.first left.2 in
    absurd (rw c.in_default-escaped.is at (c.escaped.ensures.only piece.part piece.rest piece.is_part piece.layout))

pub loop-front-smaller : goal.loop-front-smaller
loop-front-smaller c =
    let escape = c.in-Some-escaped.ensures.found in
    shorter_behind c.args.coding escape.0 c.loop-front.rest.now c.in-Some.front.now c.in-Some.behind.now c.in-Some-escaped.after.now c.in-Some.ensures.found escape.3

pub loop-front-preserved : goal.loop-front-preserved
loop-front-preserved c =
    let escape = c.in-Some-escaped.ensures.found in
    let character = encode_utf8 c.in-Some-escaped.character in
    let pushed = c.in_ok-push_str.ensures.bytes ∙ ap (λ (l : List ℕ). string_bytes c.loop-front.text ++ l) c.in-Some-raw_text.ensures.found in
    let bytes = c.in_ok-push.ensures.bytes ∙ ap (λ (l : List ℕ). l ++ character) pushed in
    let P : List ℕ → Type 0 = λ l. IsReadTo c.args.coding c.args.spelled.now l c.in-Some-escaped.after.now in
    subst P (sym bytes)
    (reading_goes_on c.args.coding c.args.spelled.now (string_bytes c.loop-front.text) c.loop-front.rest.now c.in-Some.front.now c.in-Some.behind.now character
    c.in-Some-escaped.after.now c.loop-front.invariant c.in-Some.ensures.found c.in-Some.ensures.first c.in-Some-raw_text.ensures.utf8 c.in-Some-raw_text.ensures.raw
    (record { part = escape.0; is_part = escape.1; texts = escape.2; layout = escape.3 }) c.in-Some-escaped.ensures.only)

pub returns-in_default-raw_text-2-clause-only : goal.returns-in_default-raw_text-2-clause-only
returns-in_default-raw_text-2-clause-only c text spells =
    let left = c.loop-front.invariant.only text spells in
    let free = not_cut backslash c.loop-front.rest.now (λ front rest free same. rw c.in_default.is at (c.cut_at.ensures.only front rest free same)) in
    let last = last_piece c.args.coding c.loop-front.rest.now left.0 free left.2 in
    absurd (let none : false ≡ true = rw c.in_default-raw_text-2.is at (c.raw_text-2.ensures.only last.2 last.1) in cc)

pub returns-clause-found : goal.returns-clause-found
returns-clause-found c =
    let bytes = c.in_ok-push_str-2.ensures.bytes ∙ ap (λ (l : List ℕ). string_bytes c.loop-front.text ++ l) c.in-Some-raw_text-2.ensures.found in
    let rest = Spells-raw c.args.coding c.loop-front.rest.now c.in-Some-raw_text-2.ensures.utf8 c.in-Some-raw_text-2.ensures.raw in
    let P : List ℕ → Type 0 = Spells c.args.coding c.args.spelled.now in
    subst P (sym bytes) (c.loop-front.invariant.found c.loop-front.rest.now rest)

pub returns-clause-only : goal.returns-clause-only
returns-clause-only c text spells =
    let bytes = c.in_ok-push_str-2.ensures.bytes ∙ ap (λ (l : List ℕ). string_bytes c.loop-front.text ++ l) c.in-Some-raw_text-2.ensures.found in
    let left = c.loop-front.invariant.only text spells in
    let free = not_cut backslash c.loop-front.rest.now (λ front rest free same. rw c.in_default.is at (c.cut_at.ensures.only front rest free same)) in
    let last = last_piece c.args.coding c.loop-front.rest.now left.0 free left.2 in
    bytes ∙ ap (λ (l : List ℕ). string_bytes c.loop-front.text ++ l) (sym last.0) ∙ sym left.1
