-- What a console is heard to say, as a line of a script.
use Rattle.std.proofs.Common.{◌≡◌, ◌≤◌, ℕ, List, ◌++◌, length, Option, Some, None, Result, Ok, Err, IfOk, false, inr, sym, ap, subst, ◌∙◌}
use Rattle.cim_words.specs.Written.{line_limit}
use Rattle.desk.specs.Consoles.{IsConsole}
use Rattle.script.specs.Lines.{Asks, behind_console, stage_word}
use Rattle.script.specs.Rehearsal.{RehearsalState}
use Rattle.script.specs.Staging.{Begins, Hears, Staged}
use Rattle.script.specs.Turns.{is_skipped}
use Rattle.script.proofs.Opening.{closed_to, opens_after}

-- a line that asks something of a console begins a turn as the console is heard
pub heard : {E : Type 0} (r : Result (Option Staged) E) (before after : RehearsalState) (line asked old new : List ℕ) (console : ℕ) → is_skipped line ≡ false → length line ≤ line_limit
    → IsConsole console → line ≡ behind_console console asked
    → IfOk r (λ next. (text : List ℕ) × (new ≡ old ++ text) × Hears before console asked text after next)
    → IfOk r (λ next. (text : List ℕ) × (new ≡ old ++ text) × Begins before line text after next)
heard (Ok None) before after line asked old new console says fits is layout (text, appended, (other, (told, is_text, answered))) = (
  text,
  appended,
  inr (
    says,
    closed_to line console asked is layout other,
    inr (inr (console, asked, told, record { fits = fits; is_console = is; layout = layout }, is_text, answered)),
  ),
)
heard (Ok (Some staged)) before after line asked old new console says fits is layout (text, appended, (stages, same, nothing, still)) =
    let staged_line = layout ∙ ap (λ (word : List ℕ). behind_console console word) stages in (
      text,
      appended,
      (
        says,
        opens_after line console is staged_line,
        subst (λ (s : Staged). Asks line s.console stage_word) (sym same) (record { fits = fits; is_console = is; layout = staged_line }),
        ap (λ (s : Staged). s.text) same,
        nothing,
        still,
      ),
    )
heard (Err e) before after line asked old new console says fits is layout h = tt
