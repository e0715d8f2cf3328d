-- A document begins after the line by which a console stages it, and after no other.
use Rattle.std.proofs.Common.{◌≡◌, ℕ, ◌+◌, ◌-◌, ◌<◌, ◌≤◌, ◌⊎◌, inl, inr, List, ◌∷◌, length, get_or, true, false, arith, sym, ap, ◌∙◌}
use Rattle.std.proofs.lemmas.Bool.{false_from_ne_true}
use Rattle.std.proofs.lemmas.List.Folds.{Any-from_list_any, list_any_at}
use Rattle.std.proofs.lemmas.List.FromFn.{get_or-range_with_len, length-range_with_len}
use Rattle.std.proofs.lemmas.Slice.Eq.{bytes_eq-Decides}
use Rattle.std.specs.Str.{bytes_eq}
use Rattle.cim_words.specs.Written.{line_limit}
use Rattle.desk.specs.Consoles.{IsConsole, most_consoles}
use Rattle.script.specs.Lines.{behind_console, stage_word}
use Rattle.script.specs.Turns.{consoles, opens, stage_line}
use Rattle.script.proofs.Consoles.{begins, one_console}

-- the place of a console in the list of consoles
at_place : (console d : ℕ) → IsConsole console → get_or consoles (console - 1) d ≡ console
at_place console d is = get_or-range_with_len 1 most_consoles (console - 1) d (omega (arith, is.1)) ∙ (omega (arith, is.0))

pub opens_after : (line : List ℕ) (console : ℕ) → IsConsole console → line ≡ stage_line console → opens line ≡ true
unfolding opens
opens_after line console is says =
    let within : console - 1 < length consoles = omega (arith, length-range_with_len 1 most_consoles, is.0, is.1) in
    list_any_at (λ (c : ℕ). bytes_eq line (stage_line c)) consoles (console - 1) 0 within (rw (at_place console 0 is) ((bytes_eq-Decides line (stage_line console)).1 says))

stages : (line : List ℕ) → opens line ≡ true → (console : ℕ) × IsConsole console × (line ≡ stage_line console)
unfolding opens
stages line is =
    let found = Any-from_list_any (λ (c : ℕ). bytes_eq line (stage_line c)) consoles is in
    let within : found.0 < most_consoles = omega (arith, found.2, length-range_with_len 1 most_consoles) in
    let number : 1 + found.0 ≡ found.1 = sym (get_or-range_with_len 1 most_consoles found.0 found.1 within) ∙ found.3 in
    (found.1, (omega (arith, number), omega (arith, number, within)), (bytes_eq-Decides line (stage_line found.1)).0 found.4)

-- a line that asks something else of a console begins no document, and neither does one that names no console
pub closed_to : (line : List ℕ) (console : ℕ) (asked : List ℕ) → IsConsole console → line ≡ behind_console console asked → (asked ≡ stage_word → ⊥) → opens line ≡ false
closed_to line console asked is says other =
    false_from_ne_true (opens line) (λ begun. let staged = stages line begun in other (one_console line console staged.0 asked (stage_word) is staged.1 says staged.2).1)

pub closed_to_none : (line : List ℕ) → ((console : ℕ) (request : List ℕ) → IsConsole console → line ≡ behind_console console request → ⊥) → opens line ≡ false
closed_to_none line none = false_from_ne_true (opens line) (λ begun. let staged = stages line begun in none staged.0 (stage_word) staged.1 staged.2)

-- a line that is too long begins no document either
pub closed_to_long : (line : List ℕ) → line_limit < length line → opens line ≡ false
closed_to_long line long = false_from_ne_true (opens line) (λ begun. let staged = stages line begun in by staged.0 staged.1 (begins staged.0 stage_word staged.1) staged.2)
  where
    by : (console : ℕ) → IsConsole console
        → ((console < 10) × (behind_console console stage_word ≡ 99 ∷ (48 + console) ∷ 32 ∷ stage_word)) ⊎ ((10 ≤ console) × (behind_console console stage_word ≡ 99 ∷ 49 ∷ (38 + console) ∷ 32 ∷ stage_word))
        → line ≡ stage_line console → ⊥
    by console is (inl x) says = let few : length line ≡ 8 = ap length (says ∙ x.1) in omega (arith, long, few)
    by console is (inr x) says = let few : length line ≡ 9 = ap length (says ∙ x.1) in omega (arith, long, few)
